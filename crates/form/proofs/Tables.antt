-- The table of a form: what the calls over it promise, from the answers to its records; and the laws of answering. Sections:
--     the records that a loop over the table has answered
--     answering twice, in any order, and all: `again`, `swap`, `all_in_any_order`
--     a line's answer depends on its own record and pads alone: `own_answer`, `own_alone`, `own_among_all`
use mathlib.Core.Path.{◌≡◌, refl, sym, ap, ◌∙◌}
use mathlib.Core.Bool.{Bool, true, false, cond}
use mathlib.Core.List.{List, [], ◌∷◌, map}
use Prim.Native.Nat.{ℕ, zero, suc, ◌+◌, ◌≤◌, ◌<◌}
use native.Mathlib.Decide.{dec_lt, ℕ_discrete}
use native.Mathlib.Omega.{arith}
use borrow.Author.Tests.{eq-eqb, ne_eqb, lt-ltb, le-ltb, le-leb, lt-leb}
use lib.Dec.{eqb, leb}
use lib.ListN.{length, set, length-set, length-map}
use lib.Seq.{get_or-set_same, get_or-set_other, ext_get_or}
use lib.IntN.{ℤ}
use borrow.Author.Count.{below_more}
use Rattle.std.proofs.lemmas.List.{get_or-map}
use Rattle.jumper.specs.Limits.{max_lines}
use Rattle.form.specs.Line.{answer_of, answered_of, with_answer, Inside, LineAnswer, SameLine}
use Rattle.form.specs.Table.{no_record, record_at, too_long, line_says, line_done, all_says, answered_each, all_done, in_order, among, EachAnswered}
use Rattle.form.specs.declared.line.Order.{Order}
use Rattle.form.specs.declared.line.Line.{Line}
use Rattle.form.proofs.Lines.{dec_inside, outside_answer, inside_answer}

-- ---- what the loop has answered
-- the first i records are answered as `answered` promises, the others are as they were
pub record Swept (t : List Line) (p q : List ℤ) (i : ℕ) (u : List Line) : Type 0 where
  pub same : length u ≡ length t
  pub done : (k : ℕ) → k < i → LineAnswer (record_at t k) p q (record_at u k)
  pub left : (k : ℕ) → i ≤ k → record_at u k ≡ record_at t k

-- a line's answer is all that answering it changes
pub answer_alone : {line r : Line} {p q : List ℤ} → LineAnswer line p q r → r ≡ with_answer line r.answer
answer_alone {line} a = a.answer ∙ ap (with_answer line) (sym (ap (λ (l : Line). l.answer) a.answer))

module _ {t : List Line} {p q : List ℤ} {i : ℕ} {u : List Line} (s : Swept t p q i u) where
  pub swept_more : (r : Line) → i < length u → LineAnswer (record_at u i) p q r → Swept t p q (i + 1) (set u i r)
  swept_more r h a =
      record {
        same = length-set u i r ∙ s.same;
        done = below_more (λ k. LineAnswer (record_at t k) p q (record_at (set u i r) k)) i before here;
        left = λ k g. get_or-set_other u i k r no_record (λ e. omega arith) ∙ s.left k (omega arith);
      }
    where
      before : (k : ℕ) → k < i → LineAnswer (record_at t k) p q (record_at (set u i r) k)
      before k g = rw (get_or-set_other u i k r no_record (λ e. omega arith)) (s.done k g)

      here : LineAnswer (record_at t i) p q (record_at (set u i r) i)
      here = rw (get_or-set_same u i r no_record h) (rw (s.left i (omega arith)) at a)

  pub swept_all : i ≡ length u → EachAnswered t p q u
  swept_all e =
      let f = λ (l : Line). answered_of l p q in
      let n : i ≡ length t = e ∙ s.same in
      record {
        table =
            ext_get_or no_record u (map f t) (s.same ∙ sym (length-map t f)) (λ k h.
            let l : k < length t = omega (arith, s.same) in
            (s.done k (omega arith)).answer ∙ sym (get_or-map f t k no_record no_record l));
        means = λ k h. s.done k (omega arith);
      }

-- ---- answering twice, in any order, and all
module _ (p q : List ℤ) where
  pub line_size : (t : List Line) (k : ℕ) → length (line_done t k p q) ≡ length t
  line_size t k = go (too_long t) (leb (length t) k)
    where
      go : (u v : Bool) → length (cond u t (cond v t (set t k (answered_of (record_at t k) p q)))) ≡ length t
      go true v = refl
      go false true = refl
      go false false = length-set t k (answered_of (record_at t k) p q)

  -- a table that is too long stays as it is
  pub line_long : (t : List Line) (k : ℕ) → max_lines < length t → line_done t k p q ≡ t
  line_long t k h = rw (lt-ltb max_lines (length t) h)

  pub order_long : (ks : List ℕ) (t : List Line) → max_lines < length t → in_order ks t p q ≡ t
  order_long [] t h = refl
  order_long (k ∷ ks) t h = rw (line_long t k h) (order_long ks t h)

  -- record j after answering line k
  pub line_record : (t : List Line) (k j : ℕ) → length t ≤ max_lines → j < length t
      → record_at (line_done t k p q) j ≡ cond (eqb j k) (answered_of (record_at t j) p q) (record_at t j)
  line_record t k j h g = go (ℕ_discrete j k) (dec_lt k (length t))
    where
      fits : too_long t ≡ false
      fits = le-ltb max_lines (length t) h

      r : Line
      r = answered_of (record_at t k) p q

      go : Dec (j ≡ k) → Dec (k < length t) → record_at (line_done t k p q) j ≡ cond (eqb j k) (answered_of (record_at t j) p q) (record_at t j)
      go (yes e) (yes l) = rw (eq-eqb j k e, fits, lt-leb (length t) k l, e) (get_or-set_same t k r no_record l)
      go (yes e) (no l) = absurd (omega arith)
      go (no e) (yes l) = rw (ne_eqb j k e, fits, lt-leb (length t) k l) (get_or-set_other t k j r no_record e)
      go (no e) (no l) = rw (ne_eqb j k e, fits, le-leb (length t) k (omega arith))

  -- an answer doesn't depend on the answer that stood there before, so answering a record twice is answering it once
  twice_once : (l : Line) (u v : Bool)
      → cond v (answered_of (cond u (answered_of l p q) l) p q) (cond u (answered_of l p q) l) ≡ cond (cond u true v) (answered_of l p q) l
  twice_once l true true = refl
  twice_once l true false = refl
  twice_once l false true = refl
  twice_once l false false = refl

  pub order_size : (ks : List ℕ) (t : List Line) → length (in_order ks t p q) ≡ length t
  order_size [] t = refl
  order_size (k ∷ ks) t = order_size ks (line_done t k p q) ∙ line_size t k

  pub order_record : (ks : List ℕ) (t : List Line) (j : ℕ) → length t ≤ max_lines → j < length t
      → record_at (in_order ks t p q) j ≡ cond (among j ks) (answered_of (record_at t j) p q) (record_at t j)
  order_record [] t j h g = refl
  order_record (k ∷ ks) t j h g =
      let n = line_size t k in
      order_record ks (line_done t k p q) j (omega arith) (omega arith)
      ∙ rw (line_record t k j h g) (twice_once (record_at t j) (eqb j k) (among j ks))

  -- two orders that name the same lines of the table leave the same table
  pub same_lines : (ks ls : List ℕ) (t : List Line) → ((j : ℕ) → j < length t → among j ks ≡ among j ls) → in_order ks t p q ≡ in_order ls t p q
  same_lines ks ls t e = go (dec_lt max_lines (length t))
    where
      go : Dec (max_lines < length t) → in_order ks t p q ≡ in_order ls t p q
      go (yes h) = order_long ks t h ∙ sym (order_long ls t h)
      go (no h) =
          ext_get_or no_record (in_order ks t p q) (in_order ls t p q) (order_size ks t ∙ sym (order_size ls t)) (λ j g.
          let n = order_size ks t in
          rw (order_record ks t j (omega arith) (omega arith), order_record ls t j (omega arith) (omega arith), e j (omega arith)))

  -- answering line i and then line j is answering j and then i, and answering a line twice is answering it once
  pub swap : (t : List Line) (i j : ℕ) → line_done (line_done t i p q) j p q ≡ line_done (line_done t j p q) i p q
  swap t i j = same_lines (i ∷ j ∷ []) (j ∷ i ∷ []) t (λ k h. either (eqb k i) (eqb k j))
    where
      either : (u v : Bool) → cond u true (cond v true false) ≡ cond v true (cond u true false)
      either true true = refl
      either true false = refl
      either false true = refl
      either false false = refl

  pub again : (t : List Line) (k : ℕ) → line_done (line_done t k p q) k p q ≡ line_done t k p q
  again t k = same_lines (k ∷ k ∷ []) (k ∷ []) t (λ j h. both (eqb j k))
    where
      both : (u : Bool) → cond u true (cond u true false) ≡ cond u true false
      both true = refl
      both false = refl

  -- "Answering all equals answering each alone": each line once or more often, in any order
  pub all_in_any_order : (ks : List ℕ) (t : List Line) → ((j : ℕ) → j < length t → among j ks ≡ true) → in_order ks t p q ≡ all_done t p q
  all_in_any_order ks t e = go (dec_lt max_lines (length t))
    where
      go : Dec (max_lines < length t) → in_order ks t p q ≡ all_done t p q
      go (yes h) = rw (lt-ltb max_lines (length t) h) (order_long ks t h)
      go (no h) =
          let n = order_size ks t in
          rw (le-ltb max_lines (length t) (omega arith))
          (ext_get_or no_record (in_order ks t p q) (answered_each t p q) (order_size ks t ∙ sym (length-map t (λ l. answered_of l p q))) (λ j g.
          rw (order_record ks t j (omega arith) (omega arith), e j (omega arith), get_or-map (λ l. answered_of l p q) t j no_record no_record (omega arith))))

  -- so does the call's own refusal: of a line of the table it is that of the table
  pub same_refusal : (t : List Line) (k : ℕ) → k < length t → line_says t k ≡ all_says t
  same_refusal t k h = rw (lt-leb (length t) k h)

-- lines i, i + 1 .. of which there are n: answering all is answering the first, the second .. and the last
abbrev pub onward : (i n : ℕ) → List ℕ
onward i zero = []
onward i (suc n) = i ∷ onward (suc i) n

onward_among : (j i n : ℕ) → i ≤ j → j < i + n → among j (onward i n) ≡ true
onward_among j i zero h g = absurd (omega arith)
onward_among j i (suc n) h g = go (ℕ_discrete j i) (onward_among j (suc i) n)
  where
    go : Dec (j ≡ i) → (suc i ≤ j → j < suc i + n → among j (onward (suc i) n) ≡ true) → cond (eqb j i) true (among j (onward (suc i) n)) ≡ true
    go (yes e) less = rw (eq-eqb j i e)
    go (no e) less = rw (ne_eqb j i e) (less (omega arith) (omega arith))

pub all_in_turn : (t : List Line) (p q : List ℤ) → in_order (onward 0 (length t)) t p q ≡ all_done t p q
all_in_turn t p q = all_in_any_order p q (onward 0 (length t)) t (λ j h. onward_among j 0 (length t) (omega arith) (omega arith))

-- ---- a line's answer depends on its own record and pads alone
pub own_answer : (o : Order) (p q : List ℤ) (o' : Order) (p' q' : List ℤ) → SameLine o p q o' p' q' → answer_of o p q ≡ answer_of o' p' q'
own_answer o p q o' p' q' s = go (dec_inside o p q)
  where
    go : Dec (Inside o p q) → answer_of o p q ≡ answer_of o' p' q'
    go (yes i) = inside_answer o p q i ∙ rw (s.bottom, s.top, s.wish) (sym (inside_answer o' p' q' (s.inside.0 i)))
    go (no h) = outside_answer o p q h ∙ sym (outside_answer o' p' q' (λ i. h (s.inside.1 i)))

-- two forms that agree on a line's record and pads agree on its answer, whatever the others hold: answered alone, and among all
module _ (t t' : List Line) (p q p' q' : List ℤ) (k k' : ℕ) (h : k < length t) (h' : k' < length t') (few : length t ≤ max_lines) (few' : length t' ≤ max_lines)
    (same : SameLine (record_at t k).order p q (record_at t' k').order p' q') where
  pub own_alone : (record_at (line_done t k p q) k).answer ≡ (record_at (line_done t' k' p' q') k').answer
  own_alone =
      rw (line_record p q t k k few h, line_record p' q' t' k' k' few' h', eq-eqb k k refl, eq-eqb k' k' refl)
      (own_answer (record_at t k).order p q (record_at t' k').order p' q' same)

  pub own_among_all : (record_at (all_done t p q) k).answer ≡ (record_at (all_done t' p' q') k').answer
  own_among_all =
      let r = get_or-map (λ l. answered_of l p q) t k no_record no_record h in
      let r' = get_or-map (λ l. answered_of l p' q') t' k' no_record no_record h' in
      rw (le-ltb max_lines (length t) few, le-ltb max_lines (length t') few', r, r')
      (own_answer (record_at t k).order p q (record_at t' k').order p' q' same)
