-- What the helpers ask and promise. A level reads its entries where they stand in the rows, at a stride.
--
-- Worked: rows 0,1,2,3,9,10,11 and 0,1,2,3,4,5,6. The level of stride 2 reads pads 0, 2, 4, 6, less 0, 2, 4, 6: x = 0,0,5,5 and y = 0,0,0,0. Its trial at 2
-- reads a_0 - b_4 = a_2 - b_6 = -4 and a_4 - b_0 = a_6 - b_2 = 9; 4 further on and 4 less these are the ends of its range, 0..5.
-- The ladder is 7:3, 4:2, 2:1, 1:0 and the count 22.
use Rattle.std.specs.Prelude.{◌≡◌, IfSome, List, ◌++◌, ℕ, ◌+◌, ◌-◌, ◌*◌, ◌≤◌, ◌<◌, length, drop, ℤ, pos, ◌-ℤ◌}
use Rattle.whole.specs.Pick.{largest, smallest}
use Rattle.wiring.specs.Wiring.{pad}
use Rattle.jumper.specs.Limits.{max_pairs}
use Rattle.jumper.specs.Span.{range_of}
use Rattle.jumper.specs.declared.range.OffsetRange.{OffsetRange}
use Rattle.best.specs.Halving.{Taken, taken, read_at, halving}
use Rattle.best.specs.Best.{ladder_of, planned_of}
use Rattle.best.specs.declared.plan.Planned.{Planned}
use Rattle.best.specs.declared.entries.Entries.{Entries}
use Rattle.best.specs.declared.level.Level.{Level}

-- entry j, read where it stands in a row: of x for the bottom row, of y for the top row
abbrev pub entries : List ℤ → (first step lower : ℕ) → ℕ → ℤ
entries a first step lower j = pad a (first + step * j) -ℤ pos (lower * j)

-- the entries of a level of stride p: a[p j] - p j
abbrev pub level_entries : List ℤ → ℕ → ℕ → ℤ
level_entries a p = entries a 0 p p

-- those of some entries
abbrev pub x_of : Entries → ℕ → ℤ
x_of e = level_entries e.rows.now.bottom.now e.step

abbrev pub y_of : Entries → ℕ → ℤ
y_of e = level_entries e.rows.now.top.now e.step

-- the two differences of columns that are read from pad first + step i on, `gap` pads apart
abbrev pub low_read : (a b : List ℤ) (first step gap : ℕ) → ℕ → ℤ
low_read a b first step gap i = pad a (first + step * i) -ℤ pad b (first + step * i + gap)

abbrev pub high_read : (a b : List ℤ) (first step gap : ℕ) → ℕ → ℤ
high_read a b first step gap i = pad a (first + step * i + gap) -ℤ pad b (first + step * i)

-- these, for so many i from 0 on, stand in rows of n pads, the first at pad 0; and the largest low one and the smallest high one, and how many they are
pub record Readable (n p gap count : ℕ) : Type 0 where
  pub some : 1 ≤ count
  pub few : count ≤ max_pairs
  pub inside : p * (count - 1) + gap < n

abbrev pub read_of : (a b : List ℤ) (first step gap count : ℕ) → OffsetRange × ℕ
read_of a b first step gap count =
    (record { low = largest (low_read a b first step gap) (count - 1); high = smallest (high_read a b first step gap) (count - 1) }, 2 * count)

-- a trial at s among m entries: the range of the rule, and how many differences are read for it
abbrev pub trial_of : (m : ℕ) (x y : ℕ → ℤ) (s : ℕ) → OffsetRange × ℕ
trial_of m x y s = (range_of m x y s, read_at m s)

-- what a level hands up: its best and count, and the range at its best where that was read
pub record IsLevel (m : ℕ) (x y : ℕ → ℤ) (t : Taken) (r : Level) : Type 0 where
  pub best : r.best ≡ t.best
  pub count : r.count ≡ t.count
  pub kept : IfSome r.range (λ g. g ≡ range_of m x y t.best)

-- the level is the rule's, and so is the ladder
pub record Halved (m : ℕ) (x y : ℕ → ℤ) (before after : List ℕ) (r : Level) : Type 0 where
  pub level : IsLevel m x y (taken (halving m x y).best (halving m x y).count) r
  pub ladder : after ≡ (halving m x y).ladder ++ drop (length (halving m x y).ladder) before

-- what accepted rows come to
pub record IsPlanned (a b : List ℤ) (before after : List ℕ) (r : Planned) : Type 0 where
  pub planned : r ≡ planned_of a b
  pub ladder : after ≡ ladder_of a b ++ drop (length (ladder_of a b)) before
