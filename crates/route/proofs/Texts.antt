-- The frames 21: a wire that has come to its top pad's column, and what writing them leaves to write.
use Rattle.std.specs.Prelude.{Ok}
use mathlib.Core.Path.{◌≡◌, refl, sym, ap, ◌∙◌}
use mathlib.Core.Bool.{Bool, true, false, cond, true≢false}
use mathlib.Core.Logic.{⊎_elim}
use mathlib.Core.List.{List, [], ◌++◌, append_assoc, append-nil}
use Prim.Native.Nat.{ℕ, zero, suc, ◌+◌, ◌-◌, ◌<◌, ◌≤◌}
use native.Mathlib.Omega.{arith}
use lib.Dec.{ltb, leb}
use lib.ListN.{length, take}
use lib.IntN.{ℤ, pos, ◌+ℤ◌, ◌-ℤ◌}
use lib.Signed.{◌≤ℤ◌, lt_z}
use mir.Syntax.{w32}
use mir.Val.{SFits, of_z, to_z}
use Rattle.std.proofs.lemmas.Int.{to_z-of_z}
use borrow.Author.Tests.{lt-ltb, le-ltb, ltb-true, ltb-false, leb-true, leb-false, eq-eqb}
use Rattle.whole.specs.Pick.{differ}
use Rattle.whole.proofs.Arith.{arithℤ, sum, dif}
use Rattle.whole.proofs.Order.{false_lt, lt_false}
use Rattle.wiring.specs.Wiring.{pad, top_pad}
use Rattle.wiring.specs.Fit.{Rising}
use Rattle.wiring.specs.Tracks.{rule_at}
use Rattle.wiring.specs.Drawing.{entry, column_at, drawn}
use Rattle.wiring.proofs.Rule.{spread}
use Rattle.wiring.proofs.Serves.{rule_up}
use Rattle.wiring.proofs.Drawing.{entry_clamped, column_second}
use Rattle.jumper.specs.Asked.{check_asked, Asked}
use Rattle.jumper.specs.declared.asked.Question.{Question}
use Rattle.jumper.proofs.Accepted.{number_of}
use Rattle.jumper.proofs.Checks.{asked_accepted}
use Rattle.frame.specs.Written.{move_line}
use Rattle.frame.specs.Puts.{LinePut}
use Rattle.frame.proofs.Puts.{take_puts, move_length}
use Rattle.frame.specs.declared.write.Move.{Move}
use Rattle.frame.proofs.Scan.{either}
use Rattle.route.specs.Moves.{move_text, track_text, wire_text, wires_text, route_left, is_asked, moves_left, MovesOut, RouteOut, TrackOut}

-- ---- equal columns

-- and columns of which the bits are equal
pub same_bits : (x y : ℤ) → SFits w32 x → SFits w32 y → of_z w32 x ≡ of_z w32 y → x ≡ y
same_bits x y f g e = sym (to_z-of_z w32 x f) ∙ ap (to_z w32) e ∙ to_z-of_z w32 y g

differ_same : (x y : ℤ) → x ≡ y → differ x y ≡ false
differ_same x y h = let e : lt_z x y ≡ false = lt_false x y (omega arithℤ) in let f : lt_z y x ≡ false = lt_false y x (omega arithℤ) in simp (e, f)

differ_not : (x y : ℤ) → (x ≡ y → ⊥) → differ x y ≡ true
differ_not x y h =
    either (lt_z x y) (λ e. simp e)
    (λ e. either (lt_z y x) (λ f. simp (e, f)) (λ f. absurd (h (omega (arithℤ, false_lt x y e, false_lt y x f)))))

-- ---- a wire that has come to the column of its top pad stays there

held : (n : ℕ) (a : ℕ → ℤ) → Rising n a → (c : ℤ) (i t u : ℕ) → i < n → t ≤ u → entry n a c i t ≡ c → entry n a c i u ≡ c
held n a ra c i t u here le e =
    let y = entry_clamped n a ra c i u here in
    let low : entry n a c i u ≤ℤ c = ⊎_elim (λ p. p) held_left y.below in
    let high : c ≤ℤ entry n a c i u = ⊎_elim (λ p. p) held_right y.above in
    omega arithℤ
  where
    -- pad i - u holds it
    held_left : (u ≤ i) × (entry n a c i u ≡ a (i - u) +ℤ pos u) → entry n a c i u ≤ℤ c
    held_left p =
        let x = entry_clamped n a ra c i t here in
        let far = spread ra (u - t) (i - u) (i - t) (omega (arith, p.0)) (omega arith) in
        omega (arithℤ, p.1, e, x.lower (omega (arith, p.0)), sum (a (i - u)) (pos u), sum (a (i - t)) (pos t), sum (a (i - u)) (pos (u - t)), far)

    -- pad i + u holds it
    held_right : (i + u < n) × (entry n a c i u ≡ a (i + u) -ℤ pos u) → c ≤ℤ entry n a c i u
    held_right p =
        let x = entry_clamped n a ra c i t here in
        let far = spread ra (u - t) (i + t) (i + u) (omega arith) p.0 in
        omega (arithℤ, p.1, e, x.upper (omega (arith, p.0)), dif (a (i + u)) (pos u), dif (a (i + t)) (pos t), sum (a (i + t)) (pos (u - t)), far)

stays : (n : ℕ) (a : ℕ → ℤ) → Rising n a → (c : ℤ) (i t u : ℕ) → i < n → t ≤ u → column_at n a c i t ≡ c → column_at n a c i u ≡ c
stays n a ra c i t u here le = held n a ra c i (rule_at t) (rule_at u) here (rule_up t u le)

-- a wire goes straight up from its pad: no frame 21 names track 0
pub none_on_track_0 : (l n : ℕ) (a c : ℕ → ℤ) (i : ℕ) → track_text l (drawn n a c) i 0 ≡ []
unfolding move_text
none_on_track_0 l n a c i =
    let second : drawn n a c i (0 + 1) ≡ drawn n a c i 0 = column_second n a (c i) i in
    simp (second, differ_same (drawn n a c i 0) (drawn n a c i 0) refl) refl

no_tracks : (l : ℕ) (e : ℕ → ℕ → ℤ) (c : ℤ) (i t k : ℕ) → ((u : ℕ) → t ≤ u → e i u ≡ c) → wire_text l e i t k ≡ []
unfolding wire_text move_text
no_tracks l e c i t zero h = refl
no_tracks l e c i t (suc k) h =
    let p : e i t ≡ c = h t (omega arith) in
    let q : e i (t + 1) ≡ c = h (t + 1) (omega arith) in
    simp (p, q, differ_same c c refl) (no_tracks l e c i (t + 1) k (λ u g. h u (omega arith)))

-- ---- one track

module _ (m : Move) (out : List ℕ) (at : ℕ) where
  pub track_none : m.from ≡ m.to → TrackOut (move_text m) out at true at out
  unfolding move_text
  track_none e = record { wrote = λ h. simp (differ_same m.from m.to e) (sym (append-nil (take at out))); fits = (λ h. h); full = λ h. absurd (true≢false h) }

  pub track_full : (p : ℕ) (out' : List ℕ) → LinePut (move_line m) out at p out' → p ≡ at → TrackOut (move_text m) out at false at out'
  track_full p out' k e =
      either (leb (at + length (move_line m)) (length out))
      (λ q. let l = move_length m in let g = k.room (leb-true _ _ q) in absurd (omega (arith, g.0)))
      (λ q.
      let l = move_length m in
      let f = leb-false _ _ q in
      let g = k.full f in
      record { wrote = (λ h. absurd (true≢false (sym h))); fits = (λ h. h); full = λ h. (refl, g.1, omega arith) })

  pub track_put : (p : ℕ) (out' : List ℕ) → LinePut (move_line m) out at p out' → (p ≡ at → ⊥) → (m.from ≡ m.to → ⊥)
      → TrackOut (move_text m) out at true p out'
  unfolding move_text
  track_put p out' k n e =
      either (leb (at + length (move_line m)) (length out))
      (λ q.
      let room : at + length (move_line m) ≤ length out = leb-true _ _ q in
      let g = k.room room in
      record {
        wrote = λ h. simp (differ_not m.from m.to e) (ap (λ (z : ℕ). take z out') g.0 ∙ ap (take (at + length (move_line m))) g.1 ∙ take_puts out at (move_line m) room);
        fits = λ h. omega (arith, g.0);
        full = λ h. absurd (true≢false h);
      })
      (λ q. absurd (n (k.full (leb-false _ _ q)).0))

-- ---- one wire

module _ (l s : ℕ) (e : ℕ → ℕ → ℤ) (i : ℕ) where
  pub wire_more : (out out' : List ℕ) (t p q : ℕ) → t < s → take q out' ≡ take p out ++ track_text l e i t
      → take p out ++ wire_text l e i t (s - t) ≡ take q out' ++ wire_text l e i (t + 1) (s - (t + 1))
  unfolding wire_text
  wire_more out out' t p q h g =
      let k : s - t ≡ suc (s - (t + 1)) = omega arith in
      ap (λ (z : ℕ). take p out ++ wire_text l e i t z) k
      ∙ sym (append_assoc (take p out) (track_text l e i t) (wire_text l e i (t + 1) (s - (t + 1))))
      ∙ ap (λ (z : List ℕ). z ++ wire_text l e i (t + 1) (s - (t + 1))) (sym g)

  pub wire_none : (t : ℕ) → s ≤ t → wire_text l e i t (s - t) ≡ []
  unfolding wire_text
  wire_none t h = let k : s - t ≡ 0 = omega arith in ap (wire_text l e i t) k

-- a wire that stands on its top pad's column has nothing more to write
pub wire_stays : (l s : ℕ) (n : ℕ) (a c : ℕ → ℤ) → Rising n a → (i t : ℕ) → i < n → drawn n a c i t ≡ c i → wire_text l (drawn n a c) i t (s - t) ≡ []
wire_stays l s n a c ra i t here e = no_tracks l (drawn n a c) (c i) i t (s - t) (λ u g. stays n a ra (c i) i t u here g e)

-- ---- the wires of a route

wires_more : (l s : ℕ) (e : ℕ → ℕ → ℤ) (i n : ℕ) → i < n → wires_text l e s i (n - i) ≡ wire_text l e i 0 (s - 0) ++ wires_text l e s (i + 1) (n - (i + 1))
unfolding wires_text
wires_more l s e i n h =
    let k : n - i ≡ suc (n - (i + 1)) = omega arith in
    let z : s ≡ s - 0 = omega arith in
    ap (wires_text l e s i) k ∙ ap (λ (x : ℕ). wire_text l e i 0 x ++ wires_text l e s (i + 1) (n - (i + 1))) z

wires_none : (l s : ℕ) (e : ℕ → ℕ → ℤ) (i n : ℕ) → n ≤ i → wires_text l e s i (n - i) ≡ []
unfolding wires_text
wires_none l s e i n h = let k : n - i ≡ 0 = omega arith in ap (wires_text l e s i) k

pub route_more : (l s : ℕ) (d : ℤ) (a b : List ℤ) (i t : ℕ) (out out' : List ℕ) (p q : ℕ) → i < length a
    → take p out ++ wire_text l (drawn (length a) (pad a) (top_pad b d)) i t (s - t) ≡ take q out' ++ []
    → take p out ++ route_left l s d a b i t ≡ take q out' ++ route_left l s d a b (i + 1) 0
unfolding route_left
route_more l s d a b i t out out' p q h w =
    let R : List ℕ = wires_text l e s (i + 1) (length a - (i + 1)) in
    simp (lt-ltb _ _ h)
    (sym (append_assoc (take p out) (wire_text l e i t (s - t)) R)
    ∙ ap (λ (z : List ℕ). z ++ R) (w ∙ append-nil (take q out'))
    ∙ ap (λ (z : List ℕ). take q out' ++ z) (next (ltb (i + 1) (length a)) refl))
  where
    e : ℕ → ℕ → ℤ
    e = drawn (length a) (pad a) (top_pad b d)

    next : (x : Bool) → ltb (i + 1) (length a) ≡ x
        → wires_text l e s (i + 1) (length a - (i + 1))
        ≡ cond x (wire_text l e (i + 1) 0 (s - 0) ++ wires_text l e s (i + 1 + 1) (length a - (i + 1 + 1))) []
    next true x = wires_more l s e (i + 1) (length a) (ltb-true _ _ x)
    next false x = wires_none l s e (i + 1) (length a) (ltb-false _ _ x)

-- no more wires
pub route_end : (l s : ℕ) (d : ℤ) (a b : List ℤ) (i t : ℕ) → length a ≤ i → route_left l s d a b i t ≡ []
unfolding route_left
route_end l s d a b i t h = simp (le-ltb _ _ h)

-- where the buffer is full, the rest of the wire is left
pub route_stop : (l s : ℕ) (d : ℤ) (a b : List ℤ) (i t t' : ℕ) (out out' : List ℕ) (p q : ℕ) → i < length a
    → take p out ++ wire_text l (drawn (length a) (pad a) (top_pad b d)) i t (s - t) ≡ take q out' ++ wire_text l (drawn (length a) (pad a) (top_pad b d)) i t' (s - t')
    → take p out ++ route_left l s d a b i t ≡ take q out' ++ route_left l s d a b i t'
unfolding route_left
route_stop l s d a b i t t' out out' p q h w =
    let e : ℕ → ℕ → ℤ = drawn (length a) (pad a) (top_pad b d) in
    let R : List ℕ = wires_text l e s (i + 1) (length a - (i + 1)) in
    simp (lt-ltb _ _ h)
    (sym (append_assoc (take p out) (wire_text l e i t (s - t)) R) ∙ ap (λ (z : List ℕ). z ++ R) w ∙ append_assoc (take q out') (wire_text l e i t' (s - t')) R)

-- ---- the step of the loop over a wire's tracks

pub wire_step : (l s : ℕ) (e : ℕ → ℕ → ℤ) (i : ℕ) (W out out' : List ℕ) (t p q : ℕ) (x y : ℤ) → t < s → x ≡ e i t → y ≡ e i (t + 1)
    → W ≡ take p out ++ wire_text l e i t (s - t) → take q out' ≡ take p out ++ move_text (record { line = l; wire = i; track = t; from = x; to = y })
    → W ≡ take q out' ++ wire_text l e i (t + 1) (s - (t + 1))
wire_step l s e i W out out' t p q x y h ex ey w g =
    let m : move_text (record { line = l; wire = i; track = t; from = x; to = y }) ≡ track_text l e i t = simp (ex, ey) in
    w ∙ wire_more l s e i out out' t p q h (g ∙ ap (λ (z : List ℕ). take p out ++ z) m)

-- ---- rows that are accepted
pub asked_route : (l : ℕ) (q : Question) {s : ℕ} {d : ℤ} {a b : List ℤ} → (q.rows.bottom.now ≡ a) × (q.rows.top.now ≡ b) × (q.separation ≡ s) × (q.offset ≡ d)
    → (i t : ℕ) (out : List ℕ) (from i' t' to : ℕ) (out' last : List ℕ) → check_asked a b s d ≡ Ok tt → last ≡ out' → RouteOut l q i t out from i' t' to out'
    → MovesOut l s d a b i t out from i' t' to last
asked_route l q {s} {d} {a} {b} e i t out from i' t' to out' last z same r =
    let y : is_asked a b s d ≡ true = eq-eqb _ _ (number_of (check_asked a b s d) z) in
    rw same (record { gave = simp y (rw (e.0, e.1, e.2, e.3) at r.gave); fits = r.fits; far = rw e.0 at r.far })

-- ---- the whole route, and none

from_start : (l s : ℕ) (d : ℤ) (a b : List ℤ) → route_left l s d a b 0 0 ≡ wires_text l (drawn (length a) (pad a) (top_pad b d)) s 0 (length a)
unfolding route_left wires_text
from_start l s d a b = go (length a) (drawn (length a) (pad a) (top_pad b d))
  where
    go : (n : ℕ) (e : ℕ → ℕ → ℤ) → cond (ltb 0 n) (wire_text l e 0 0 (s - 0) ++ wires_text l e s (0 + 1) (n - (0 + 1))) [] ≡ wires_text l e s 0 n
    go zero e = refl
    go (suc n) e =
        let p : s - 0 ≡ s = omega arith in
        let q : suc n - 1 ≡ n = omega arith in
        simp (lt-ltb 0 (suc n) (omega arith))
        (ap (λ (x : ℕ). wire_text l e 0 0 x ++ wires_text l e s 1 (suc n - 1)) p ∙ ap (λ (x : ℕ). wire_text l e 0 0 s ++ wires_text l e s 1 x) q)

-- the frames of accepted rows from the start are those of all wires
pub whole_route : (l s : ℕ) (d : ℤ) (a b : List ℤ) → Asked a b s d → moves_left l s d a b 0 0 ≡ wires_text l (drawn (length a) (pad a) (top_pad b d)) s 0 (length a)
whole_route l s d a b k =
    let y : is_asked a b s d ≡ true = eq-eqb _ _ (number_of (check_asked a b s d) (asked_accepted a b s d k)) in
    simp y (from_start l s d a b)

-- past the last wire there are none
pub no_moves : (l s : ℕ) (d : ℤ) (a b : List ℤ) (i t : ℕ) → length a ≤ i → moves_left l s d a b i t ≡ []
no_moves l s d a b i t h = go (is_asked a b s d)
  where
    go : (x : Bool) → cond x (route_left l s d a b i t) [] ≡ []
    go true = route_end l s d a b i t h
    go false = refl
