-- WHAT THE CALLS PROMISE, from what their parts find; and the laws that join them: drawing all is drawing each, and what is drawn is accepted.
-- Sections: the same wires; the checker; one wire; all wires; the laws that join them.
use Rattle.std.specs.Prelude.{Ok, Err}
use mathlib.Core.Path.{◌≡◌, refl, sym, ◌∙◌}
use mathlib.Core.List.{List}
use mathlib.Core.Logic.{◌⊎◌, inl, inr, ◌↔◌}
use Prim.Native.Nat.{ℕ, zero, suc, ◌+◌, ◌*◌, ◌≤◌, ◌<◌}
use native.Mathlib.Omega.{arith}
use borrow.Author.Tests.{lt-ltb, le-ltb}
use lib.ListN.{length, take, drop, length-append}
use lib.Seq.{take_at}
use lib.IntN.{ℤ}
use Rattle.wiring.specs.Wiring.{Legal, pad, top_pad, HasWiring}
use Rattle.wiring.specs.Fit.{Rising}
use Rattle.wiring.specs.Table.{up_from, wire_of, LegalTable}
use Rattle.wiring.proofs.Theorem.{shifted_rising, drawing_legal}
use Rattle.jumper.specs.Refusals.{refusal_numbers}
use Rattle.jumper.specs.Rows.{AcceptedRows, checked_numbers}
use Rattle.jumper.specs.Asked.{check_asked, Asked}
use Rattle.jumper.specs.declared.asked.Question.{Question}
use Rattle.jumper.specs.declared.refusal.Refusal.{Refusal}
use Rattle.jumper.specs.declared.refusal.Refusal.TheVariants.{Buffer, BadWire}
use Rattle.jumper.specs.Rows.{Checked}
use Rattle.jumper.proofs.Accepted.{numbered, refused_not, accepted_of}
use Rattle.jumper.proofs.Checks.{accepted_asked, asked_accepted, early_asked}
use Rattle.fit.specs.Misfit.{FitAnswer, Witness}
use Rattle.jumper.proofs.Wired.{wiring_exactly}
use Rattle.route.specs.Table.{column_in, columns, wires, LegalRoute}
use Rattle.route.specs.Draw.{drawn_of, drawn_wires, wire_drawn, all_drawn, wire_refusal, all_refusal, DrawWireAnswer, DrawAllAnswer}
use Rattle.route.specs.Check.{NoFault, FirstFault, first_fault, route_checked, RouteCheck}
use Rattle.route.proofs.Places.{columns_length, columns_at, wires_length, wires_at, wires_part}
use Rattle.route.proofs.Faults.{searched}
use Rattle.route.proofs.Legal.{faultless_legal}
use Rattle.route.proofs.Reading.{reads_only}

-- THE SAME COLUMNS mean the same wire
up_same : (e f : ℕ → ℤ) (t m s : ℕ) → t + m ≡ s → ((u : ℕ) → u ≤ s → e u ≡ f u) → up_from e t m ≡ up_from f t m
unfolding up_from
up_same e f t zero s h g = refl
up_same e f t (suc m) s h g = rw (g t (omega arith), g (suc t) (omega arith), up_same e f (suc t) m s (omega arith) g)

pub wire_same : (e f : ℕ → ℤ) (s : ℕ) → ((t : ℕ) → t ≤ s → e t ≡ f t) → wire_of e s ≡ wire_of f s
unfolding wire_of
wire_same e f s g = rw (g 0 (omega arith), up_same e f 0 s s (omega arith) g)

pub legal_same : (n s : ℕ) (a c : ℕ → ℤ) (e f : ℕ → ℕ → ℤ) → ((i t : ℕ) → i < n → t ≤ s → e i t ≡ f i t) → LegalTable n s a c e → LegalTable n s a c f
legal_same n s a c e f g l =
    record {
      wires = λ i h. rw (← same i h) (l.wires i h);
      apart = λ i j h k p x y. l.apart i j h k p (rw (same i (omega arith)) x) (rw (same j k) y);
    }
  where
    same : (i : ℕ) → i < n → wire_of (e i) s ≡ wire_of (f i) s
    same i h = wire_same (e i) (f i) s (λ t k. g i t h k)

top_rising : {a b : List ℤ} → AcceptedRows a b → (d : ℤ) → Rising (length a) (top_pad b d)
top_rising {a} {b} r d = shifted_rising {b = pad b} d (rw r.equal r.top.rising)

-- a question is accepted
pub question_asked : (q : Question) {a b : List ℤ} {s : ℕ} {d : ℤ} → (q.rows.bottom.now ≡ a) × (q.rows.top.now ≡ b) × (q.separation ≡ s) × (q.offset ≡ d)
    → check_asked a b s d ≡ Ok tt
question_asked q e = rw (← e.0, ← e.1, ← e.2, ← e.3) (asked_accepted _ _ _ _ (record { rows = q.rows.accepted; tracks = q.tracks; offset = q.shift }))

-- THE CHECKER
module _ (a b : List ℤ) (s : ℕ) (d : ℤ) (table : List ℤ) where
  reading : (r : Checked) → r ≡ route_checked a b s d table → (other : List ℤ) → take (length a * (s + 1)) other ≡ take (length a * (s + 1)) table → r ≡ route_checked a b s d other
  reading r e other agree = e ∙ reads_only a b s d table other agree

  pub check_early : (r : Refusal) → check_asked a b s d ≡ Err r → RouteCheck a b s d table (Err r)
  check_early r e =
      let l = rw e at (early_asked a b s d) in
      record {
        answer = sym (rw e);
        reads = reading (Err r) (sym (rw e));
        accepts = ((λ z. absurd (numbered r z)), (λ z. absurd (refused_not r (sym e ∙ asked_accepted a b s d z.0))));
        refuses = ((λ z. absurd (omega arith)), (λ z. absurd (refused_not r (sym e ∙ asked_accepted a b s d z.0))));
        fault = λ z. absurd (omega arith);
      }

  module _ (e : check_asked a b s d ≡ Ok tt) where
    pub check_short : length table < length a * (s + 1) → RouteCheck a b s d table (Err Buffer)
    check_short h =
        record {
          answer = sym (rw (e, lt-ltb (length table) (length a * (s + 1)) h));
          reads = reading (Err Buffer) (sym (rw (e, lt-ltb (length table) (length a * (s + 1)) h)));
          accepts = ((λ z. absurd (omega arith)), (λ z. absurd (omega (arith, z.1))));
          refuses = ((λ z. absurd (omega arith)), (λ z. absurd (omega (arith, z.1))));
          fault = λ z. absurd (omega arith);
        }

    pub check_read : length a * (s + 1) ≤ length table → (r : Checked) → r ≡ first_fault a b s d table → RouteCheck a b s d table r
    check_read h r f = go (searched (length a) s (pad a) (top_pad b d) (column_in table s))
      where
        k : Asked a b s d
        k = accepted_asked a b s d e

        answer : r ≡ route_checked a b s d table
        answer = rw (e, le-ltb (length table) (length a * (s + 1)) h) f

        exact : NoFault (length a) s (pad a) (top_pad b d) (column_in table s) ↔ LegalRoute a b s d table
        exact = faultless_legal (length a) s (pad a) (top_pad b d) (column_in table s) k.rows.bottom.rising (top_rising k.rows d)

        go :
            ((first_fault a b s d table ≡ Ok tt) × NoFault (length a) s (pad a) (top_pad b d) (column_in table s))
            ⊎ ((i : ℕ) × (t : ℕ) × (first_fault a b s d table ≡ Err (BadWire i t))
            × FirstFault (length a) s (pad a) (top_pad b d) (column_in table s) i t)
            → RouteCheck a b s d table r
        go (inl g) =
            let p : r ≡ Ok tt = f ∙ g.0 in
            rw p
            (record {
              answer = rw p at answer;
              reads = reading (Ok tt) (rw p at answer);
              accepts = ((λ z. (k, h, exact.0 g.1)), (λ z. refl));
              refuses = ((λ z. absurd (omega arith)), (λ z. absurd (z.2 (exact.0 g.1))));
              fault = λ z. absurd (omega arith);
            })
        go (inr g) =
            let p : r ≡ Err (BadWire g.0 g.1) = f ∙ g.2 in
            let bad : LegalRoute a b s d table → ⊥ = λ l. exact.1 l g.0 g.3.wire g.1 g.3.track g.3.fault in
            rw p
            (record {
              answer = rw p at answer;
              reads = reading (Err (BadWire g.0 g.1)) (rw p at answer);
              accepts = ((λ z. absurd (omega arith)), (λ z. absurd (bad z.2)));
              refuses = ((λ z. (k, h, bad)), (λ z. refl));
              fault = λ z. g.3;
            })

-- what is drawn is legal where a wiring exists
drawn_legal : {a b : List ℤ} → AcceptedRows a b → (s : ℕ) (d : ℤ) → HasWiring a b s d → Legal (length a) s (pad a) (top_pad b d) (drawn_wires a b s d)
drawn_legal {a} {b} r s d w = (drawing_legal (length a) s (pad a) (pad b) d r.bottom.rising (rw r.equal r.top.rising)).1 ((wiring_exactly r s d).0 w)

-- ONE WIRE
module _ (a b : List ℤ) (s : ℕ) (d : ℤ) (wire : ℕ) (out : List ℤ) where
  -- a refusal draws nothing
  wire_refused : (r : Refusal) → Err r ≡ wire_refusal a b s d wire (length out) → (Asked a b s d × (wire < length a) × (s < length out) × HasWiring a b s d → ⊥)
      → ((refusal_numbers r).refusal ≡ 10) ↔ (Asked a b s d × (wire < length a) × (s < length out) × (HasWiring a b s d → ⊥))
      → ((refusal_numbers r).refusal ≡ 10 → Witness a b s d (refusal_numbers r).pair (refusal_numbers r).side)
      → DrawWireAnswer a b s d wire out out (Err r)
  wire_refused r answer not prevents witness =
      record {
        answer = answer;
        buffer = refl;
        refused = λ z. refl;
        draws = ((λ z. absurd (numbered r z)), (λ z. absurd (not z)));
        places = λ z. absurd (numbered r z);
        means = λ z. absurd (numbered r z);
        legal = λ z. absurd (numbered r z);
        prevents = prevents;
        witness = witness;
      }

  pub wire_early : (r : Refusal) → check_asked a b s d ≡ Err r → DrawWireAnswer a b s d wire out out (Err r)
  wire_early r e =
      let l = rw e at (early_asked a b s d) in
      let not : Asked a b s d → ⊥ = λ k. refused_not r (sym e ∙ asked_accepted a b s d k) in
      wire_refused r (sym (rw e)) (λ z. not z.0) ((λ z. absurd (omega arith)), (λ z. absurd (not z.0))) (λ z. absurd (omega arith))

  module _ (e : check_asked a b s d ≡ Ok tt) (lt : wire < length a) (room : s < length out) where
    pub wire_misfit : (r : Refusal) → FitAnswer a b s d (Err r) → DrawWireAnswer a b s d wire out out (Err r)
    wire_misfit r f =
        let g : s + 1 ≤ length out = omega arith in
        wire_refused r (rw (e, lt-ltb wire (length a) lt, le-ltb (length out) (s + 1) g) (rw e at f.answer)) (λ z. numbered r (f.fits.1 (z.0, z.3)))
        ((λ z. let p = f.prevents.0 z in (p.0, lt, room, p.1)), (λ z. f.prevents.1 (z.0, z.3)))
        f.witness

    pub wire_done : (out' : List ℤ) → out' ≡ wire_drawn a b s d wire out → FitAnswer a b s d (Ok tt) → DrawWireAnswer a b s d wire out out' (Ok tt)
    wire_done out' h f =
        let g : s + 1 ≤ length out = omega arith in
        let k = f.fits.0 refl in
        let at : (t : ℕ) → t ≤ s → pad out' t ≡ drawn_of a b d wire t = λ t l. rw h (columns_at (drawn_of a b d wire) (s + 1) t (drop (s + 1) out) (omega arith)) in
        record {
          answer = rw (e, lt-ltb wire (length a) lt, le-ltb (length out) (s + 1) g) (rw e at f.answer);
          buffer = h;
          refused = λ z. absurd (z refl);
          draws = ((λ z. (k.0, lt, room, k.1)), (λ z. refl));
          places = λ z. at;
          means = λ z. wire_same (pad out') (drawn_of a b d wire) s at;
          legal = λ z. drawn_legal k.0.rows s d k.1;
          prevents = ((λ z. absurd (omega arith)), (λ z. absurd (z.3 k.1)));
          witness = λ z. absurd (omega arith);
        }

-- ALL WIRES
module _ (a b : List ℤ) (s : ℕ) (d : ℤ) (out : List ℤ) where
  all_refused : (r : Refusal) → Err r ≡ all_refusal a b s d (length out) → (Asked a b s d × (length a * (s + 1) ≤ length out) × HasWiring a b s d → ⊥)
      → ((refusal_numbers r).refusal ≡ 10) ↔ (Asked a b s d × (length a * (s + 1) ≤ length out) × (HasWiring a b s d → ⊥))
      → ((refusal_numbers r).refusal ≡ 10 → Witness a b s d (refusal_numbers r).pair (refusal_numbers r).side)
      → DrawAllAnswer a b s d out out (Err r)
  all_refused r answer not prevents witness =
      record {
        answer = answer;
        buffer = refl;
        refused = λ z. refl;
        draws = ((λ z. absurd (numbered r z)), (λ z. absurd (not z)));
        places = λ z. absurd (numbered r z);
        legal = λ z. absurd (numbered r z);
        prevents = prevents;
        witness = witness;
      }

  pub all_early : (r : Refusal) → check_asked a b s d ≡ Err r → DrawAllAnswer a b s d out out (Err r)
  all_early r e =
      let l = rw e at (early_asked a b s d) in
      let not : Asked a b s d → ⊥ = λ k. refused_not r (sym e ∙ asked_accepted a b s d k) in
      all_refused r (sym (rw e)) (λ z. not z.0) ((λ z. absurd (omega arith)), (λ z. absurd (not z.0))) (λ z. absurd (omega arith))

  module _ (e : check_asked a b s d ≡ Ok tt) where
    pub all_short : length out < length a * (s + 1) → DrawAllAnswer a b s d out out (Err Buffer)
    all_short h =
        all_refused Buffer (sym (rw (e, lt-ltb (length out) (length a * (s + 1)) h))) (λ z. omega (arith, z.1))
        ((λ z. absurd (omega arith)), (λ z. absurd (omega (arith, z.1))))
        (λ z. absurd (omega arith))

    module _ (room : length a * (s + 1) ≤ length out) where
      pub all_misfit : (r : Refusal) → FitAnswer a b s d (Err r) → DrawAllAnswer a b s d out out (Err r)
      all_misfit r f =
          all_refused r (rw (e, le-ltb (length out) (length a * (s + 1)) room) (rw e at f.answer)) (λ z. numbered r (f.fits.1 (z.0, z.2)))
          ((λ z. let p = f.prevents.0 z in (p.0, room, p.1)), (λ z. f.prevents.1 (z.0, z.2)))
          f.witness

      pub all_done_lem : (out' : List ℤ) → out' ≡ all_drawn a b s d out → FitAnswer a b s d (Ok tt) → DrawAllAnswer a b s d out out' (Ok tt)
      all_done_lem out' h f =
          let k = f.fits.0 refl in
          let at : (i t : ℕ) → i < length a → t ≤ s → column_in out' s i t ≡ drawn_of a b d i t = λ i t g l. rw h (wires_at (drawn_of a b d) s (length a) i t (drop (length a * (s + 1)) out) g l) in
          record {
            answer = rw (e, le-ltb (length out) (length a * (s + 1)) room) (rw e at f.answer);
            buffer = h;
            refused = λ z. absurd (z refl);
            draws = ((λ z. (k.0, room, k.1)), (λ z. refl));
            places = λ z. at;
            legal = λ z. legal_same (length a) s (pad a) (top_pad b d) (drawn_of a b d) (column_in out' s) (λ i t g l. sym (at i t g l)) (drawn_legal k.0.rows s d k.1);
            prevents = ((λ z. absurd (omega arith)), (λ z. absurd (z.2 k.1)));
            witness = λ z. absurd (omega arith);
          }

-- DRAWING ALL IS DRAWING EACH: with room for both the answers are the same, and a wire's part of the table is what drawing it alone writes
pub all_is_each : {a b : List ℤ} {s : ℕ} {d : ℤ} {out out' own own' : List ℤ} {i : ℕ} {r q : Checked}
    → DrawAllAnswer a b s d out out' r → DrawWireAnswer a b s d i own own' q → i < length a → length a * (s + 1) ≤ length out → s < length own
    → (q ≡ r) × ((checked_numbers r).refusal ≡ 0 → take (s + 1) own' ≡ take (s + 1) (drop (i * (s + 1)) out'))
all_is_each {a} {b} {s} {d} {out} {out'} {own} {own'} {i} {r} {q} f g lt room Own-room = (same, parts)
  where
    same : q ≡ r
    same =
        let h : s + 1 ≤ length own = omega arith in
        g.answer ∙ rw (lt-ltb i (length a) lt, le-ltb (length own) (s + 1) h) (sym (f.answer ∙ rw (le-ltb (length out) (length a * (s + 1)) room)))

    parts : (checked_numbers r).refusal ≡ 0 → take (s + 1) own' ≡ take (s + 1) (drop (i * (s + 1)) out')
    parts z =
        let e : r ≡ Ok tt = accepted_of r z in
        let x : out' ≡ all_drawn a b s d out = rw e at f.buffer in
        let y : own' ≡ wire_drawn a b s d i own = rw (same ∙ e) at g.buffer in
        rw (x, y)
        (take_at (columns (drawn_of a b d i) (s + 1)) (drop (s + 1) own) (s + 1) (columns_length (drawn_of a b d i) (s + 1))
        ∙ sym (wires_part (drawn_of a b d) s (length a) i (drop (length a * (s + 1)) out) lt))

-- WHAT WE DRAW OUR CHECKER ACCEPTS
pub drawn_accepted : {a b : List ℤ} {s : ℕ} {d : ℤ} {out out' : List ℤ} {r q : Checked}
    → DrawAllAnswer a b s d out out' r → RouteCheck a b s d out' q → (checked_numbers r).refusal ≡ 0 → (checked_numbers q).refusal ≡ 0
drawn_accepted {a} {b} {s} {d} {out} {out'} {r} f g z =
    let e : r ≡ Ok tt = accepted_of r z in
    let x : out' ≡ all_drawn a b s d out = rw e at f.buffer in
    let l = length-append (wires (drawn_of a b d) s (length a)) (drop (length a * (s + 1)) out) in
    let room : length a * (s + 1) ≤ length out' = rw x (omega (arith, l, wires_length (drawn_of a b d) s (length a))) in
    g.accepts.1 ((f.draws.0 z).0, room, f.legal z)
