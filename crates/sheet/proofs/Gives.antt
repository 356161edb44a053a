-- What is still to write, part by part.
use mathlib.Core.Path.{◌≡◌, refl, sym, ap, ◌∙◌}
use mathlib.Core.Bool.{false, true≢false}
use mathlib.Core.List.{List, ◌++◌, append_assoc}
use Prim.Native.Nat.{ℕ, ◌+◌, ◌<◌, ◌≤◌}
use native.Mathlib.Omega.{arith}
use lib.Dec.{leb}
use lib.ListN.{length, take}
use lib.Seq.{length-take-le}
use lib.IntN.{ℤ}
use borrow.Author.Tests.{le-leb, lt-leb, ltb-true, leb-true, leb-false}
use Rattle.frame.specs.Written.{answer_line}
use Rattle.frame.specs.Puts.{LinePut}
use Rattle.frame.proofs.Puts.{take_puts, answer_length}
use Rattle.frame.proofs.Scan.{either}
use Rattle.frame.specs.declared.write.Answer.{Answer}
use Rattle.route.specs.Moves.{MovesOut}
use Rattle.std.proofs.Common.{Option, None, Some}
use Rattle.sheet.specs.Owes.{cut_text, due_text, left_text, pending, later, has_wires, is_busy, Given}
use Rattle.sheet.specs.Parts.{AnswerPut}
use Rattle.sheet.specs.declared.state.Route.{Route}
use Rattle.sheet.specs.declared.state.State.{State}

-- ---- a frame 20, written or not

module _ (k : Answer) (out : List ℕ) (at p : ℕ) (out' : List ℕ) (put : LinePut (answer_line k) out at p out') where
  answer_written : (p ≡ at → ⊥) → take p out' ≡ take at out ++ answer_line k
  answer_written n =
      either (leb (at + length (answer_line k)) (length out))
      (λ q.
      let room : at + length (answer_line k) ≤ length out = leb-true _ _ q in
      let g = put.room room in
      ap (λ (z : ℕ). take z out') g.0 ∙ ap (take (at + length (answer_line k))) g.1 ∙ take_puts out at (answer_line k) room)
      (λ q. absurd (n (put.full (leb-false _ _ q)).0))

  answer_fits : at ≤ length out → p ≤ length out
  answer_fits h =
      either (leb (at + length (answer_line k)) (length out))
      (λ q. let room = leb-true _ _ q in let g = put.room room in omega (arith, g.0))
      (λ q. let g = put.full (leb-false _ _ q) in omega (arith, g.0))

  pub answer_full : p ≡ at → (out' ≡ out) × (length out < at + 35)
  answer_full e =
      let l = answer_length k in
      either (leb (at + length (answer_line k)) (length out))
      (λ q. let g = put.room (leb-true _ _ q) in absurd (omega (arith, g.0)))
      (λ q. let f = leb-false _ _ q in ((put.full f).1, omega arith))

  pub answer_put : (p ≡ at → ⊥) → AnswerPut (Some k) out at p out'
  answer_put n = record { gave = answer_written n; fits = answer_fits }

-- ---- what a state has to write, part by part

-- a part of it is written, and this is left
pub record Written (s : State) (a b : List ℤ) (out : List ℕ) (at : ℕ) (left out' : List ℕ) (to : ℕ) : Type 0 where
  pub gave : take at out ++ pending s a b ≡ take to out' ++ left
  pub same : length out' ≡ length out
  pub fits : at ≤ length out → to ≤ length out

pub cut_done : {s : State} {a b : List ℤ} {k : Option Answer} {out out' : List ℕ} {at to : ℕ} → due_text k ≡ cut_text s.cut → length out' ≡ length out
    → AnswerPut k out at to out'
    → Written s a b out at (due_text s.due ++ left_text s.route a b) out' to
unfolding pending
cut_done {s = s} {a = a} {b = b} {out = out} {at = at} cut same f =
    record {
      gave = sym (append_assoc (take at out) (cut_text s.cut) (due_text s.due ++ left_text s.route a b))
          ∙ ap (λ (z : List ℕ). z ++ (due_text s.due ++ left_text s.route a b)) (ap (λ (z : List ℕ). take at out ++ z) (sym cut) ∙ sym f.gave);
      same = same;
      fits = f.fits;
    }

due_done : {s : State} {a b : List ℤ} {out one two : List ℕ} {at p q : ℕ} → Written s a b out at (due_text s.due ++ left_text s.route a b) one p
    → length two ≡ length one
    → AnswerPut s.due one p q two → Written s a b out at (left_text s.route a b) two q
due_done {s = s} {a = a} {b = b} {one = one} {p = p} w same g =
    record {
      gave = w.gave ∙ sym (append_assoc (take p one) (due_text s.due) (left_text s.route a b)) ∙ ap (λ (z : List ℕ). z ++ left_text s.route a b) (sym g.gave);
      same = same ∙ w.same;
      fits = λ h. omega (arith, w.fits h, g.fits, w.same);
    }

pub both_done : {s : State} {a b : List ℤ} {k : Option Answer} {out one two : List ℕ} {at p q : ℕ} → due_text k ≡ cut_text s.cut → length one ≡ length out
    → AnswerPut k out at p one
    → length two ≡ length one → AnswerPut s.due one p q two → Written s a b out at (left_text s.route a b) two q
both_done cut l f m g = due_done (cut_done cut l f) m g

-- the 20 that is due has no room
pub due_full : {s : State} {a b : List ℤ} {out one two : List ℕ} {at p : ℕ} → Written s a b out at (due_text s.due ++ left_text s.route a b) one p → two ≡ one
    → length one < p + 35
    → Given s a b out at (record s { cut = None }) p two
unfolding pending later
due_full w e h = rw e (record { gave = w.gave; same = (λ line rest. refl); fits = w.fits; far = λ _. omega (arith, w.same) })

pub no_route : {s : State} {a b : List ℤ} {out two : List ℕ} {at q : ℕ} → Written s a b out at (left_text s.route a b) two q → has_wires s.route ≡ false
    → Given s a b out at (record s { cut = None; due = None }) q two
unfolding pending later is_busy
no_route w e = record { gave = w.gave; same = (λ line rest. refl); fits = w.fits; far = λ h. absurd (true≢false (sym h ∙ e)) }

pub route_given : {s : State} {r : Route} {a b : List ℤ} {out two out' : List ℕ} {at q i t to : ℕ} → Written s a b out at (left_text s.route a b) two q
    → s.route ≡ Some r → r.wires ≤ 2048 → length a ≡ 2048
    → MovesOut r.line r.separation r.offset (take r.wires a) (take r.wires b) r.wire r.track two q i t to out'
    → Given s a b out at (record s { cut = None; due = None; route = Some (record r { wire = i; track = t }) }) to out'
unfolding pending left_text later is_busy
route_given {r = r} {a = a} {b = b} {two = two} {q = q} {i = i} w is few full m =
    record {
      gave = w.gave ∙ ap (λ (o : Option Route). take q two ++ left_text o a b) is ∙ simp (le-leb _ _ few) m.gave;
      same = (λ line rest. refl);
      fits = (λ h. omega (arith, w.fits h, m.fits, w.same));
      far = λ h. let n : length (take r.wires a) ≡ r.wires = length-take-le r.wires a (omega arith) in
          let u : i < r.wires = ltb-true i r.wires (simp (le-leb _ _ few) at h) in omega (arith, m.far (omega arith), w.same);
    }

pub wide : (r : Route) → 2048 < r.wires → has_wires (Some r) ≡ false
wide r h = simp (lt-leb _ _ h)

pub given_idle : {s : State} {a b : List ℤ} {out : List ℕ} {at : ℕ} → is_busy s ≡ false → Given s a b out at s at out
given_idle idle = record { gave = refl; same = (λ line rest. refl); fits = (λ h. h); far = λ h. absurd (true≢false (sym h ∙ idle)) }
