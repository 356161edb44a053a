-- The step that the code goes to is that of the event, and the event is read back from it.
-- Sections: an event that fits the lent rows; told; outside of a line; which frame was read; inside a line.
use mathlib.Core.Path.{◌≡◌, refl, sym, ap, ◌∙◌, subst}
use mathlib.Core.Bool.{Bool, true, false, cond, false≢true}
use mathlib.Core.List.{List, ◌++◌}
use Prim.Native.Nat.{ℕ, ◌+◌, ◌-◌, ◌<◌, ◌≤◌}
use native.Mathlib.Omega.{arith}
use lib.Dec.{eqb, ltb, leb}
use lib.ListN.{length, take, drop, length-append}
use lib.Seq.{length-take-le}
use borrow.Rule.Slice.PartMut.{put_mid, Post-is}
use Rattle.std.proofs.Common.{take-append-drop}
use lib.IntN.{ℤ}
use borrow.Author.Tests.{le-leb, eq-eqb, ne_eqb, eqb-true, leb-true, ltb-false}
use Rattle.std.specs.Prelude.{Option, None, Some}
use Rattle.std.proofs.lemmas.Option.{cond_some}
use Rattle.jumper.specs.declared.refusal.Refusal.{Refusal}
use Rattle.jumper.specs.declared.refusal.Refusal.TheVariants.{Empty, Long, Line, Frame as BadFrame, Sequence, Twice}
use Rattle.frame.specs.Frame.{Frame, bad, header, bottom, top, text_frame, said_of, columns_of}
use Rattle.frame.specs.Puts.{puts, ReadIn}
use Rattle.frame.proofs.Puts.{puts_is, puts_append, take_puts}
use Rattle.frame.proofs.Frames.{Few, few}
use Rattle.frame.proofs.Scan.{either}
use Rattle.frame.specs.declared.read.Order.{Order}
use Rattle.frame.specs.declared.read.Said.{Said}
use Rattle.frame.specs.declared.read.Said.TheVariants.{Header, Bottom, Top}
use Rattle.events.specs.Events.{Mode, inside, Event, opens, fills, completes, refuses, cuts, passes, mode_after, headed, is_next, fills_bottom, fills_top, event, at_end, noted}
use Rattle.events.specs.Steps.{fits, line_in, outside, mode_of, has_line, with_line, seen_by, seen_with, machine_at, inside_at, within, step_to, step_of, bottom_of, top_of, told_by, tells, Told, Stepped}
use Rattle.events.specs.Parts.{missed, outside_event, framed, count_said, RowFilled, BottomPut, TopPut}
use Rattle.events.specs.declared.machine.Machine.{Machine}
use Rattle.events.specs.declared.machine.OpenLine.{OpenLine}
use Rattle.events.specs.declared.machine.Phase.{Phase}
use Rattle.events.specs.declared.machine.Phase.TheVariants.{Ready, Inside, Skipping}
use Rattle.events.specs.declared.step.Did.TheVariants.{Filled, Completed}
use Rattle.events.specs.declared.step.Step.{Step}
use Rattle.events.proofs.Noted.{with_line_lem}

both : (x y : Bool) → cond x y false ≡ true → (x ≡ true) × (y ≡ true)
both true y h = (refl, h)
both false y h = absurd (false≢true h)

-- ---- an event that fits the lent rows, and cuts nothing off

record Rows (o : Order) (A B a b : List ℤ) : Type 0 where
  few : o.pairs ≤ 2048
  low : length A ≤ o.pairs
  high : length B ≤ o.pairs
  low_room : length A ≤ length a
  high_room : length B ≤ length b

Fit : (a b : List ℤ) → Event → Type 0
Fit a b (opens o) = o.pairs ≤ 2048
Fit a b (fills o A B) = Rows o A B a b
Fit a b (completes o A B) = Rows o A B a b × (length A ≡ o.pairs) × (length B ≡ o.pairs)
Fit a b (refuses l r) = Unit {0}
Fit a b (cuts l e) = ⊥
Fit a b passes = Unit {0}

-- a lent row begins with what was stored at its start
begins : (l vs : List ℤ) → length vs ≤ length l → take (length vs) (puts l 0 vs) ≡ vs
begins l vs h = let z : length vs ≡ 0 + length vs = omega arith in ap (λ (n : ℕ). take n (puts l 0 vs)) z ∙ take_puts l 0 vs (omega arith)

module _ (a b : List ℤ) (n : ℕ) where
  read_back : (e : Event) → Fit a b e → told_by (step_of e n).did (step_of e n).machine (puts a 0 (bottom_of e)) (puts b 0 (top_of e)) ≡ e
  unfolding Fit
  read_back (opens o) h = refl
  read_back (fills o A B) h = simp (begins a A h.low_room, begins b B h.high_room)
  read_back (completes o A B) h =
      let p : take o.pairs (puts a 0 A) ≡ A = ap (λ (k : ℕ). take k (puts a 0 A)) (sym h.1) ∙ begins a A h.0.low_room in
      let q : take o.pairs (puts b 0 B) ≡ B = ap (λ (k : ℕ). take k (puts b 0 B)) (sym h.2) ∙ begins b B h.0.high_room in
      simp (p, q)
  read_back (refuses l r) h = refl
  read_back (cuts l e) h = absurd h
  read_back passes h = refl

  uncut : (e : Event) → Fit a b e → (step_of e n).cut ≡ None
  unfolding Fit
  uncut (opens o) h = refl
  uncut (fills o A B) h = refl
  uncut (completes o A B) h = refl
  uncut (refuses l r) h = refl
  uncut (cuts l e) h = absurd h
  uncut passes h = refl

  leads : (e : Event) → Fit a b e → mode_of (step_of e n).machine (puts a 0 (bottom_of e)) (puts b 0 (top_of e)) ≡ mode_after e
  unfolding Fit mode_of line_in fits
  leads (opens o) h = simp (le-leb _ _ h, le-leb 0 o.pairs (omega arith))
  leads (fills o A B) h = simp (le-leb _ _ h.few, le-leb _ _ h.low, le-leb _ _ h.high, begins a A h.low_room, begins b B h.high_room)
  leads (completes o A B) h = refl
  leads (refuses l r) h = refl
  leads (cuts l e) h = absurd h
  leads passes h = refl

  few_pairs : (e : Event) → Fit a b e → (o : Order) → (step_of e n).did ≡ Completed o → o.pairs ≤ 2048
  unfolding Fit
  few_pairs (opens o') h o q = cc
  few_pairs (fills o' A B) h o q = cc
  few_pairs (completes o' A B) h o q = let e : o' ≡ o = cc in subst (λ (z : Order). z.pairs ≤ 2048) e h.0.few
  few_pairs (refuses l r) h o q = cc
  few_pairs (cuts l e) h o q = absurd h
  few_pairs passes h o q = cc

  -- ---- told

  module _ (e : Event) (h : Fit a b e) (t : Step) (a' b' : List ℤ) (p : a' ≡ puts a 0 (bottom_of e)) (q : b' ≡ puts b 0 (top_of e)) where
    fit_told : t ≡ step_of e n → Told e n a b t a' b'
    unfolding tells
    fit_told i =
        rw (i, p, q)
        (record { answer = refl; bottom = refl; top = refl; event = simp (uncut e h, read_back e h); mode = leads e h; few = few_pairs e h })

    -- a header that cuts off line l
    cut_told : (l : ℕ) → t ≡ step_of (cuts l e) n → Told (cuts l e) n a b t a' b'
    unfolding tells
    cut_told l i =
        rw (i, p, q)
        (record { answer = refl; bottom = refl; top = refl; event = ap (cuts l) (read_back e h); mode = leads e h; few = few_pairs e h })

step_seen : (e : Event) (n : ℕ) → (step_of e n).machine.seen ≡ n
step_seen (opens o) n = refl
step_seen (fills o a b) n = refl
step_seen (completes o a b) n = refl
step_seen (refuses l r) n = refl
step_seen (cuts l e) n = step_seen e n
step_seen passes n = refl

seen_noted : (n : ℕ) (f : Frame) (l : ℕ) → l < 64 → has_line (seen_with n (said_of f)) l ≡ noted (has_line n) f l
seen_noted n bad l h = refl
seen_noted n (header o) l h = with_line_lem n o.line l h
seen_noted n (bottom i cs) l h = refl
seen_noted n (top i cs) l h = refl

stepped : (m : Machine) (a b : List ℤ) (f : Frame) (e : Event) (t : Step) (a' b' : List ℤ) → event (seen_by m) (mode_of m a b) f ≡ e
    → Told e (seen_with m.seen (said_of f)) a b t a' b' → Stepped m a b f t a' b'
stepped m a b f e t a' b' q k =
    record {
      told = rw q k;
      seen = λ l h.
          ap (λ (z : Step). has_line z.machine.seen l) k.answer
          ∙ ap (λ (z : ℕ). has_line z l) (step_seen e (seen_with m.seen (said_of f)))
          ∙ seen_noted m.seen f l h;
    }

-- ---- outside of a line

-- an event that leaves the lent rows as they are
record Bare (a b : List ℤ) (e : Event) : Type 0 where
  fit : Fit a b e
  low : puts a 0 (bottom_of e) ≡ a
  high : puts b 0 (top_of e) ≡ b

module _ (a b : List ℤ) where
  refuses_bare : (l : ℕ) (r : Refusal) → Bare a b (refuses l r)
  unfolding Fit puts
  refuses_bare l r = record { fit = tt; low = refl; high = refl }

  passes_bare : Bare a b passes
  unfolding Fit puts
  passes_bare = record { fit = tt; low = refl; high = refl }

  headed_bare : (seen : ℕ → Bool) (o : Order) → Bare a b (headed seen o)
  unfolding headed Fit puts
  headed_bare seen o =
      either (leb 64 o.line) (λ e. rw e (refuses_bare o.line Line))
      (λ e. either (seen o.line) (λ f. rw (e, f) (refuses_bare o.line Twice))
      (λ f. either (eqb o.pairs 0) (λ g. rw (e, f, g) (refuses_bare o.line Empty))
      (λ g. either (ltb 2048 o.pairs) (λ h. rw (e, f, g, h) (refuses_bare o.line Long))
      (λ h. rw (e, f, g, h) (record { fit = ltb-false 2048 o.pairs h; low = refl; high = refl })))))

  missed_bare : (p : Phase) (r : Refusal) → Bare a b (missed p r)
  missed_bare Ready r = refuses_bare 255 r
  missed_bare (Inside p) r = passes_bare
  missed_bare Skipping r = passes_bare

  outside_bare : (p : Phase) (seen : ℕ → Bool) (s : Option Said) → Bare a b (outside_event p seen s)
  outside_bare p seen None = missed_bare p BadFrame
  outside_bare p seen (Some (Header o)) = headed_bare seen o
  outside_bare p seen (Some (Bottom l k)) = missed_bare p Sequence
  outside_bare p seen (Some (Top l k)) = missed_bare p Sequence

  bare_told : (e : Event) (n : ℕ) (t : Step) → Bare a b e → t ≡ step_of e n → Told e n a b t a b
  bare_told e n t k i = fit_told a b n e k.fit t a b (sym k.low) (sym k.high) i

outside_event_lem : (p : Phase) (seen : ℕ → Bool) (s : Option Said) (cs : List ℤ) → event seen (outside p) (framed s cs) ≡ outside_event p seen s
unfolding event
outside_event_lem Ready seen None cs = refl
outside_event_lem Ready seen (Some (Header o)) cs = refl
outside_event_lem Ready seen (Some (Bottom l k)) cs = refl
outside_event_lem Ready seen (Some (Top l k)) cs = refl
outside_event_lem (Inside p) seen None cs = refl
outside_event_lem (Inside p) seen (Some (Header o)) cs = refl
outside_event_lem (Inside p) seen (Some (Bottom l k)) cs = refl
outside_event_lem (Inside p) seen (Some (Top l k)) cs = refl
outside_event_lem Skipping seen None cs = refl
outside_event_lem Skipping seen (Some (Header o)) cs = refl
outside_event_lem Skipping seen (Some (Bottom l k)) cs = refl
outside_event_lem Skipping seen (Some (Top l k)) cs = refl

end_outside : (p : Phase) → at_end (outside p) ≡ passes
end_outside Ready = refl
end_outside (Inside p) = refl
end_outside Skipping = refl

module _ (m : Machine) (a b : List ℤ) (out : line_in m.phase ≡ None) (t : Step) where
  mode_outside : mode_of m a b ≡ outside m.phase
  unfolding mode_of
  mode_outside = simp out

  -- a frame, by what was read and the columns in lent memory
  pub outside_stepped : (s : Option Said) (cs : List ℤ) → t ≡ step_of (outside_event m.phase (seen_by m) s) (seen_with m.seen s) → s ≡ said_of (framed s cs)
      → Stepped m a b (framed s cs) t a b
  outside_stepped s cs i q =
      stepped m a b (framed s cs) (outside_event m.phase (seen_by m) s) t a b
      (ap (λ (x : Mode). event (seen_by m) x (framed s cs)) mode_outside ∙ outside_event_lem m.phase (seen_by m) s cs)
      (bare_told a b _ _ t (outside_bare a b m.phase (seen_by m) s)
      (i ∙ ap (λ (z : Option Said). step_of (outside_event m.phase (seen_by m) s) (seen_with m.seen z)) q))

  pub outside_end : t ≡ step_of passes m.seen → Told (at_end (mode_of m a b)) m.seen a b t a b
  outside_end i = rw (mode_outside, end_outside m.phase) (bare_told a b _ _ t (passes_bare a b) i)

module _ (p : OpenLine) (n : ℕ) (ok : fits p ≡ true) (a b : List ℤ) where
  mode_inside : mode_of (within p n) a b ≡ inside p.order (take p.bottom a) (take p.top b)
  unfolding mode_of line_in
  mode_inside = simp ok

  module _ (t : Step) where
    pub inside_bad : t ≡ step_of (refuses p.order.line BadFrame) n → Stepped (within p n) a b bad t a b
    unfolding event
    inside_bad i = stepped (within p n) a b bad (refuses p.order.line BadFrame) t a b (rw mode_inside) (bare_told a b _ _ t (refuses_bare a b _ _) i)

    pub inside_end : t ≡ step_of (refuses p.order.line Sequence) n → Told (at_end (mode_of (within p n) a b)) n a b t a b
    inside_end i = rw mode_inside (bare_told a b _ _ t (refuses_bare a b _ _) i)

-- ---- which frame was read

-- the columns of a frame stand in front of the lent memory, which has room for all of them
few_all : (f : Frame) → Few f → length (columns_of f) ≤ 16
few_all bad h = omega arith
few_all (header o) h = omega arith
few_all (bottom l cs) h = h.1
few_all (top l cs) h = h.1

counted : (f : Frame) → count_said (said_of f) ≡ length (columns_of f)
counted bad = refl
counted (header o) = refl
counted (bottom l cs) = refl
counted (top l cs) = refl

pub few_said : (text : List ℕ) (s : Option Said) → s ≡ said_of (text_frame text) → count_said s ≤ 16
few_said text s q = let e = ap count_said q ∙ counted (text_frame text) in let m = few_all (text_frame text) (few text) in omega arith

framed_back : (f : Frame) (columns : List ℤ) → take (length (columns_of f)) columns ≡ columns_of f → f ≡ framed (said_of f) columns
framed_back bad columns h = refl
framed_back (header o) columns h = refl
framed_back (bottom l cs) columns h = ap (bottom l) (sym h)
framed_back (top l cs) columns h = ap (top l) (sym h)

pub read_frame : (text : List ℕ) (columns columns' : List ℤ) (r : Option Said) → length columns ≡ 16 → ReadIn (text_frame text) columns r columns'
    → text_frame text ≡ framed r columns'
read_frame text columns columns' r n h =
    let cs : List ℤ = columns_of (text_frame text) in
    let m = few_all (text_frame text) (few text) in
    let c : take (length cs) columns' ≡ cs = ap (take (length cs)) h.carried ∙ begins columns cs (omega arith) in
    framed_back (text_frame text) columns' c ∙ ap (λ (z : Option Said). framed z columns') (sym h.said)

-- ---- inside a line

pub record Held (p : OpenLine) : Type 0 where
  pub bottom : p.bottom ≤ p.order.pairs
  pub top : p.top ≤ p.order.pairs
  pub few : p.order.pairs ≤ 2048

pub held : (p : OpenLine) → fits p ≡ true → Held p
unfolding fits
held p h =
    let x = both (leb p.bottom p.order.pairs) (cond (leb p.top p.order.pairs) (leb p.order.pairs 2048) false) h in
    let y = both (leb p.top p.order.pairs) (leb p.order.pairs 2048) x.1 in
    record { bottom = leb-true _ _ x.0; top = leb-true _ _ y.0; few = leb-true _ _ y.1 }

-- columns written into a row
pub stored : (row columns : List ℤ) (have : ℕ) → have + length columns ≤ length row
    → put_mid have (have + length columns - have) row columns ≡ puts row have columns
stored row columns have h =
    ap (λ (rest : List ℤ). take have row ++ (columns ++ rest)) (Post-is have (have + length columns) row (omega arith)) ∙ sym (puts_is row have columns h)

-- storing what stands there already, and more after it
own : (l : List ℤ) (n : ℕ) → n ≤ length l → puts l 0 (take n l) ≡ l
own l n h =
    let k : 0 + length (take n l) ≡ n = let e = length-take-le n l h in omega arith in
    puts_is l 0 (take n l) (omega arith) ∙ ap (λ (j : ℕ). take n l ++ drop j l) k ∙ take-append-drop n l

after : (l : List ℤ) (n : ℕ) (vs : List ℤ) → n ≤ length l → puts l 0 (take n l ++ vs) ≡ puts l n vs
after l n vs h =
    let k : 0 + length (take n l) ≡ n = let e = length-take-le n l h in omega arith in
    puts_append l 0 (take n l) vs ∙ ap (λ (r : List ℤ). puts r (0 + length (take n l)) vs) (own l n h) ∙ ap (λ (j : ℕ). puts l j vs) k

next : (o : Order) (have l k : ℕ) → is_next o have l k ≡ true → have + k ≤ o.pairs
unfolding is_next
next o have l k e = leb-true _ _ (both (eqb l o.line) (leb (have + k) o.pairs) e).1

-- columns were next in a row, or weren't
module _ (o : Order) (have l : ℕ) (columns row row' : List ℤ) where
  went : (n : ℕ) → RowFilled o have l columns row (Some n) row'
      → (is_next o have l (length columns) ≡ true) × (have + length columns ≡ n) × (row' ≡ puts row have columns)
  went n f = let c = cond_some _ _ _ (sym f.count) in let e = c.0 in (e, c.1, f.put ∙ (simp e))

  stopped : RowFilled o have l columns row None row' → (is_next o have l (length columns) ≡ false) × (row' ≡ row)
  stopped f =
      let e : is_next o have l (length columns) ≡ false =
      either (is_next o have l (length columns)) (λ e. let n : None ≡ Some (have + length columns) = f.count ∙ (simp e) in cc) (λ e. e) in
      (e, f.put ∙ (simp e))

module _ (p : OpenLine) (h : Held p) (seen : ℕ) (columns row : List ℤ) (l : ℕ) (t : Step) (row' : List ℤ) (full : length row ≡ 2048) where
  module _ (b : List ℤ) (tall : length b ≡ p.top) where
    had : length (take p.bottom row) ≡ p.bottom
    had = length-take-le p.bottom row (omega arith)

    pub bottom_in : (n : ℕ) → RowFilled p.order p.bottom l columns row (Some n) row' → t ≡ step_to (machine_at (inside_at p.order n p.top) seen) Filled
        → BottomPut p seen columns row b l t row'
    unfolding fills_bottom
    bottom_in n f i =
        let w = went p.order p.bottom l columns row row' n f in
        let e = w.0 in
        record {
          answer = i ∙ ap (λ (k : ℕ). step_to (machine_at (inside_at p.order k p.top) seen) Filled) (sym w.1) ∙ sym (simp (had, e, length-append, tall));
          put = w.2 ∙ sym (simp (had, e) (after row p.bottom columns (omega arith)));
        }

    pub bottom_out : RowFilled p.order p.bottom l columns row None row' → t ≡ step_of (refuses p.order.line Sequence) seen
        → BottomPut p seen columns row b l t row'
    unfolding fills_bottom puts
    bottom_out f i =
        let w = stopped p.order p.bottom l columns row row' f in
        let e = w.0 in
        record { answer = i ∙ sym (simp (had, e)); put = w.1 ∙ sym (simp (had, e)) }

  module _ (a : List ℤ) (tall : length a ≡ p.bottom) where
    had' : length (take p.top row) ≡ p.top
    had' = length-take-le p.top row (omega arith)

    module _ (d : p.bottom ≡ p.order.pairs) where
      pub top_full : (n : ℕ) → RowFilled p.order p.top l columns row (Some n) row' → n ≡ p.order.pairs → t ≡ step_to (machine_at Ready seen) (Completed p.order)
          → TopPut p seen columns a row l t row'
      unfolding fills_top
      top_full n f z i =
          let w = went p.order p.top l columns row row' n f in
          let e = w.0 in
          let s : p.top + length columns ≡ p.order.pairs = w.1 ∙ z in
          record {
            answer = i ∙ sym (simp (tall, eq-eqb _ _ d, had', e, eq-eqb _ _ s));
            put = w.2 ∙ sym (simp (tall, eq-eqb _ _ d, had', e, eq-eqb _ _ s) (after row p.top columns (omega arith)));
          }

      pub top_in : (n : ℕ) → RowFilled p.order p.top l columns row (Some n) row' → (n ≡ p.order.pairs → ⊥)
          → t ≡ step_to (machine_at (inside_at p.order p.bottom n) seen) Filled → TopPut p seen columns a row l t row'
      unfolding fills_top
      top_in n f z i =
          let w = went p.order p.top l columns row row' n f in
          let e = w.0 in
          let s : p.top + length columns ≡ p.order.pairs → ⊥ = λ q. z (sym w.1 ∙ q) in
          record {
            answer =
                i ∙ ap (λ (k : ℕ). step_to (machine_at (inside_at p.order p.bottom k) seen) Filled) (sym w.1)
                ∙ sym (simp (tall, eq-eqb _ _ d, had', e, ne_eqb _ _ s, length-append));
            put = w.2 ∙ sym (simp (tall, eq-eqb _ _ d, had', e, ne_eqb _ _ s) (after row p.top columns (omega arith)));
          }

      pub top_out : RowFilled p.order p.top l columns row None row' → t ≡ step_of (refuses p.order.line Sequence) seen → TopPut p seen columns a row l t row'
      unfolding fills_top puts
      top_out f i =
          let w = stopped p.order p.top l columns row row' f in
          let e = w.0 in
          record { answer = i ∙ sym (simp (tall, eq-eqb _ _ d, had', e)); put = w.1 ∙ sym (simp (tall, eq-eqb _ _ d, had', e)) }

    pub top_early : (p.bottom ≡ p.order.pairs → ⊥) → t ≡ step_of (refuses p.order.line Sequence) seen → row' ≡ row → TopPut p seen columns a row l t row'
    unfolding fills_top puts
    top_early d i q = record { answer = i ∙ sym (simp (tall, ne_eqb _ _ d)); put = q ∙ sym (simp (tall, ne_eqb _ _ d)) }

-- a frame inside a line
module _ (p : OpenLine) (n : ℕ) (ok : fits p ≡ true) (a b : List ℤ) (la : length a ≡ 2048) (lb : length b ≡ 2048) where
  h : Held p
  h = held p ok

  lows : length (take p.bottom a) ≡ p.bottom
  lows = let g = h in length-take-le p.bottom a (omega arith)

  highs : length (take p.top b) ≡ p.top
  highs = let g = h in length-take-le p.top b (omega arith)

  pub inside_header : (o : Order) (t : Step) → t ≡ step_of (cuts p.order.line (headed (has_line n) o)) (with_line n o.line)
      → Stepped (within p n) a b (header o) t a b
  unfolding event
  inside_header o t i =
      let k = headed_bare a b (has_line n) o in
      stepped (within p n) a b (header o) (cuts p.order.line (headed (has_line n) o)) t a b (rw (mode_inside p n ok a b))
      (cut_told a b _ (headed (has_line n) o) k.fit t a b (sym k.low) (sym k.high) p.order.line i)

  module _ (l : ℕ) (cs : List ℤ) where
    abbrev low_event : Event
    low_event = fills_bottom p.order (take p.bottom a) (take p.top b) l cs

    abbrev high_event : Event
    high_event = fills_top p.order (take p.bottom a) (take p.top b) l cs

    low_fit : Fit a b low_event
    unfolding fills_bottom Fit
    low_fit =
        let g = h in
        either (is_next p.order (length (take p.bottom a)) l (length cs))
        (λ e.
        let z = next p.order (length (take p.bottom a)) l (length cs) e in
        rw e
        (record { few = g.few; low = simp length-append z; high = simp highs g.top; low_room = simp length-append (omega arith); high_room = simp highs (omega arith) }))
        (λ e. rw e tt)

    low_keeps : b ≡ puts b 0 (top_of low_event)
    unfolding fills_bottom puts
    low_keeps =
        let g = h in
        either (is_next p.order (length (take p.bottom a)) l (length cs)) (λ e. rw e (sym (own b p.top (omega arith)))) (λ e. rw e)

    high_fit : Fit a b high_event
    unfolding fills_top Fit
    high_fit =
        let g = h in
        either (cond (eqb (length (take p.bottom a)) p.order.pairs) (is_next p.order (length (take p.top b)) l (length cs)) false)
        (λ e.
        let d = both (eqb (length (take p.bottom a)) p.order.pairs) (is_next p.order (length (take p.top b)) l (length cs)) e in
        let z = next p.order (length (take p.top b)) l (length cs) d.1 in
        let f : length (take p.bottom a) ≡ p.order.pairs = eqb-true _ _ d.0 in
        let rows : Rows p.order (take p.bottom a) (take p.top b ++ cs) a b =
        record { few = g.few; low = omega arith; high = simp length-append z; low_room = omega arith; high_room = simp length-append (omega arith) } in
        either (eqb (length (take p.top b) + length cs) p.order.pairs)
        (λ q. rw (e, q) (rows, f, simp length-append (eqb-true _ _ q)))
        (λ q. rw (e, q) rows))
        (λ e. rw e tt)

    high_keeps : a ≡ puts a 0 (bottom_of high_event)
    unfolding fills_top puts
    high_keeps =
        let g = h in
        either (cond (eqb (length (take p.bottom a)) p.order.pairs) (is_next p.order (length (take p.top b)) l (length cs)) false)
        (λ e. either (eqb (length (take p.top b) + length cs) p.order.pairs)
        (λ q. rw (e, q) (sym (own a p.bottom (omega arith))))
        (λ q. rw (e, q) (sym (own a p.bottom (omega arith)))))
        (λ e. rw e)

  pub inside_bottom : (l : ℕ) (cs : List ℤ) (t : Step) (a' : List ℤ) → ((B : List ℤ) → length B ≡ p.top → BottomPut p n cs a B l t a')
      → Stepped (within p n) a b (bottom l cs) t a' b
  unfolding event
  inside_bottom l cs t a' f =
      let k = f (take p.top b) highs in
      stepped (within p n) a b (bottom l cs) (low_event l cs) t a' b (rw (mode_inside p n ok a b))
      (fit_told a b _ (low_event l cs) (low_fit l cs) t a' b k.put (low_keeps l cs) k.answer)

  pub inside_top : (l : ℕ) (cs : List ℤ) (t : Step) (b' : List ℤ) → ((A : List ℤ) → length A ≡ p.bottom → TopPut p n cs A b l t b')
      → Stepped (within p n) a b (top l cs) t a b'
  unfolding event
  inside_top l cs t b' f =
      let k = f (take p.bottom a) lows in
      stepped (within p n) a b (top l cs) (high_event l cs) t a b' (rw (mode_inside p n ok a b))
      (fit_told a b _ (high_event l cs) (high_fit l cs) t a b' (high_keeps l cs) k.put k.answer)
