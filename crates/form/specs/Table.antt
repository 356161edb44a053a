-- The table of a form (01): "one table with a record for each order line, and two pools of columns". These are the promises of the calls over it.
use Rattle.std.specs.Prelude.{Bool, true, false, cond, ◌≡◌, List, [], ◌∷◌, map, ◌↔◌, ℕ, ◌≤◌, ◌<◌, eqb, ltb, leb, length, get_or, set, ℤ}
use Rattle.jumper.specs.Limits.{max_lines}
use Rattle.jumper.specs.Refusals.{refusal_numbers, nothing}
use Rattle.jumper.specs.declared.refusal.Refusal.TheVariants.{Line as NoLine}
use Rattle.form.specs.Line.{no_order, answered_of, LineAnswer}
use Rattle.form.specs.declared.line.Line.{Line}

-- record k of a table; past its end, where nothing is read, the record of no line
abbrev pub no_record : Line
no_record = record { order = no_order; answer = nothing }

abbrev pub record_at : List Line → ℕ → Line
record_at t k = get_or t k no_record

-- LINE: "no such line, over 64 lines"
abbrev pub no_line : ℕ
no_line = (refusal_numbers NoLine).refusal

abbrev pub too_long : List Line → Bool
too_long t = ltb max_lines (length t)

-- "Answering line k writes the answer fields of record k (a refusal included) and nothing else; LINE for k outside the table, or a table over 64,
-- writes nothing."
abbrev pub line_says : List Line → ℕ → ℕ
line_says t k = cond (too_long t) no_line (cond (leb (length t) k) no_line 0)

abbrev pub line_done : List Line → ℕ → (pool_a pool_b : List ℤ) → List Line
line_done t k p q = cond (too_long t) t (cond (leb (length t) k) t (set t k (answered_of (record_at t k) p q)))

-- "Answering all equals answering each alone. An empty table is fine."
abbrev pub all_says : List Line → ℕ
all_says t = cond (too_long t) no_line 0

abbrev pub answered_each : List Line → (pool_a pool_b : List ℤ) → List Line
answered_each t p q = map (λ l. answered_of l p q) t

abbrev pub all_done : List Line → (pool_a pool_b : List ℤ) → List Line
all_done t p q = cond (too_long t) t (answered_each t p q)

-- lines answered one after the other, in the order of a list; and whether line j is among them. That this is answering all, in any order, is the law
-- `all_in_any_order` of proofs/Tables.antt
abbrev pub in_order : List ℕ → List Line → (pool_a pool_b : List ℤ) → List Line
in_order [] t p q = t
in_order (k ∷ ks) t p q = in_order ks (line_done t k p q) p q

abbrev pub among : ℕ → List ℕ → Bool
among j [] = false
among j (k ∷ ks) = cond (eqb j k) true (among j ks)

-- What `answer_line` promises, of the table before and after it. The pools are lent to be read only.
pub record OneAnswered (t : List Line) (k : ℕ) (p q : List ℤ) (r : ℕ) (t' : List Line) : Type 0 where
  -- its own refusal, and the table after it, at every input
  pub answer : r ≡ line_says t k
  pub table : t' ≡ line_done t k p q
  -- no refusal exactly for a line of a table that isn't too long; else LINE, and the table as it was
  pub accepts : (r ≡ 0) ↔ ((k < length t) × (length t ≤ max_lines))
  pub refused : (r ≡ 0 → ⊥) → (r ≡ 12) × (t' ≡ t)
  -- the record is answered as `answered` promises, and no other record changes
  pub means : r ≡ 0 → LineAnswer (record_at t k) p q (record_at t' k)
  pub others : (j : ℕ) → (j ≡ k → ⊥) → record_at t' j ≡ record_at t j
  pub size : length t' ≡ length t

-- each record answered as `answered` promises
pub record EachAnswered (t : List Line) (p q : List ℤ) (t' : List Line) : Type 0 where
  pub table : t' ≡ answered_each t p q
  pub means : (k : ℕ) → k < length t → LineAnswer (record_at t k) p q (record_at t' k)

-- What `answer_all` promises.
pub record AllAnswered (t : List Line) (p q : List ℤ) (r : ℕ) (t' : List Line) : Type 0 where
  pub answer : r ≡ all_says t
  pub table : t' ≡ all_done t p q
  pub accepts : (r ≡ 0) ↔ (length t ≤ max_lines)
  pub refused : (r ≡ 0 → ⊥) → (r ≡ 12) × (t' ≡ t)
  -- every record is answered as `answered` promises
  pub means : r ≡ 0 → (k : ℕ) → k < length t → LineAnswer (record_at t k) p q (record_at t' k)
  pub size : length t' ≡ length t

-- What `answer_rows` promises: 64 records in, the same answered out.
pub record RowsAnswered (rows : List Line) (p q : List ℤ) (out : List Line) : Type 0 where
  pub answer : out ≡ answered_each rows p q
  pub means : (k : ℕ) → k < max_lines → LineAnswer (record_at rows k) p q (record_at out k)
