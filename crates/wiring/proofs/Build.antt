-- From a table of columns to wires: the wires of `Table` are wires, they go through the points that the columns mean, and where each keeps to
-- the left of the next they are a legal wiring.
use mathlib.Core.Path.{◌≡◌, refl, sym, ap, ◌∙◌}
use mathlib.Core.List.{List, [], ◌∷◌}
use mathlib.Core.Logic.{◌⊎◌, inl, inr, ⊎_elim, ◌↔◌}
use Prim.Native.Nat.{ℕ, zero, suc, ◌+◌, ◌-◌, ◌≤◌, ◌<◌}
use native.Mathlib.Decide.{ℕ_discrete}
use native.Mathlib.Numerals.{add-one}
use native.Mathlib.Omega.{arith}
use lib.IntN.{ℤ, pos, ◌-ℤ◌, nat_abs}
use lib.Signed.{◌≤ℤ◌, ◌<ℤ◌}
use Rattle.whole.proofs.Arith.{up, down, arithℤ, sum, dif, ≤_or_<}
use Rattle.whole.proofs.Order.{le_true, le_false}
use Rattle.whole.proofs.Machine.{abs_is}
use Rattle.wiring.specs.Wiring.{Point, at, Beside, Wire, On}
use Rattle.wiring.specs.Table.{east, west, steps, along, up_from, wire_of, Between, Fills, LegalTable}
use Rattle.wiring.proofs.Walk.{Among, on_among, among_on, Leads, Lifted, wire_walk, walk_wire, same_point}

-- how far y is to the right of x
gap : (x y : ℤ) → x ≤ℤ y → up x + down y + nat_abs (y -ℤ x) ≡ up y + down x
gap x y h = let g = abs_is (y -ℤ x) (up y + down x - (up x + down y)) (inl (omega (arithℤ, dif y x))) in omega arithℤ

-- `along` by which way it goes
to_east : (x y : ℤ) (t : ℕ) (rest : List Point) → x ≤ℤ y → along x y t rest ≡ steps east (nat_abs (y -ℤ x)) x t rest
unfolding along
to_east x y t rest h = rw (le_true x y h)

to_west : (x y : ℤ) (t : ℕ) (rest : List Point) → y <ℤ x → along x y t rest ≡ steps west (nat_abs (x -ℤ y)) x t rest
unfolding along
to_west x y t rest h = rw (le_false x y h)

-- `go` goes one column on: to the right, with u and d the halves of a column, or to the left, with the halves changed over
module _ (u d : ℤ → ℕ) (go : ℤ → ℤ)
    (on : (x : ℤ) → u (go x) + d x ≡ suc (u x + d (go x)))
    (near : (x : ℤ) → Beside x (go x))
    (same : (x y : ℤ) → u x + d y ≡ u y + d x → x ≡ y) where
  steps_lead : (k : ℕ) (x y : ℤ) (s t : ℕ) (c : ℤ) (rest : List Point) → u x + d y + k ≡ u y + d x → t < s
      → Leads s c (at y t) rest → Leads s c (at x t) (steps go k x t rest)
  unfolding steps
  steps_lead zero x y s t c rest h lt l = let e : x ≡ y = same x y (omega arith) in rw e l
  steps_lead (suc k) x y s t c rest h lt l = (lt, inl (refl, near x), steps_lead k (go x) y s t c rest (omega (arith, on x)) lt l)

  -- the points of a run: from one step after x to k steps after it
  record Part (x : ℤ) (t k : ℕ) (q : Point) : Type 0 where
    same_track : q.track ≡ t
    after : u x + d q.column < u q.column + d x
    upto : u q.column + d x ≤ u x + d q.column + k

  steps_on : (k : ℕ) (x : ℤ) (t : ℕ) (rest : List Point) (q : Point) → Among q (steps go k x t rest) → Part x t k q ⊎ Among q rest
  unfolding steps
  steps_on zero x t rest q h = inr h
  steps_on (suc k) x t rest q (inl e) =
      let p = ap (λ (z : Point). u z.column) e in
      let r = ap (λ (z : Point). d z.column) e in
      inl (record { same_track = ap (λ (z : Point). z.track) e; after = omega (arith, on x); upto = omega (arith, on x) })
  steps_on (suc k) x t rest q (inr h) =
      ⊎_elim
      (λ z. inl (record { same_track = z.same_track; after = omega (arith, z.after, on x); upto = omega (arith, z.upto, on x) }))
      inr
      (steps_on k (go x) t rest q h)

  steps_has : (k : ℕ) (x : ℤ) (t : ℕ) (rest : List Point) (q : Point) → Part x t k q → Among q (steps go k x t rest)
  unfolding steps
  steps_has zero x t rest q p = absurd (omega (arith, p.after, p.upto))
  steps_has (suc k) x t rest q p = pick (ℕ_discrete (u q.column + d (go x)) (u (go x) + d q.column)) (steps_has k (go x) t rest q)
    where
      pick : Dec (u q.column + d (go x) ≡ u (go x) + d q.column) → (Part (go x) t k q → Among q (steps go k (go x) t rest))
          → Among q (at (go x) t ∷ steps go k (go x) t rest)
      pick (yes g) r = inl (same_point q (at (go x) t) (same q.column (go x) g) p.same_track)
      pick (no g) r = inr (r (record { same_track = p.same_track; after = omega (arith, p.after, on x); upto = omega (arith, p.upto, on x) }))

steps_rest : (go : ℤ → ℤ) (k : ℕ) (x : ℤ) (t : ℕ) (rest : List Point) (q : Point) → Among q rest → Among q (steps go k x t rest)
unfolding steps
steps_rest go zero x t rest q h = h
steps_rest go (suc k) x t rest q h = inr (steps_rest go k (go x) t rest q h)

east_on : (x : ℤ) → up (east x) + down x ≡ suc (up x + down (east x))
east_on x = omega (arith, sum x (pos 1))

west_on : (x : ℤ) → down (west x) + up x ≡ suc (down x + up (west x))
west_on x = omega (arith, dif x (pos 1))

west_near : (x : ℤ) → Beside x (west x)
west_near x = inr (omega (arithℤ, sum (west x) (pos 1), dif x (pos 1)))

along_leads : (x y : ℤ) (s t : ℕ) (c : ℤ) (rest : List Point) → t < s → Leads s c (at y t) rest → Leads s c (at x t) (along x y t rest)
along_leads x y s t c rest lt l =
    ⊎_elim
    (λ h. rw (to_east x y t rest h) (steps_lead up down east east_on (λ z. inl refl) (λ p q e. omega arithℤ) (nat_abs (y -ℤ x)) x y s t c rest (gap x y h) lt l))
    (λ h. rw (to_west x y t rest h) (steps_lead down up west west_on west_near (λ p q e. omega arithℤ) (nat_abs (x -ℤ y)) x y s t c rest (far h) lt l))
    (≤_or_< x y)
  where
    far : y <ℤ x → down x + up y + nat_abs (x -ℤ y) ≡ down y + up x
    far h = let le : y ≤ℤ x = omega arithℤ in omega (arith, gap y x le)

-- the points of a run, but for its first
along_on : (x y : ℤ) (t : ℕ) (rest : List Point) (q : Point) → Among q (along x y t rest) → ((q.track ≡ t) × Between q.column x y) ⊎ Among q rest
along_on x y t rest q h =
    ⊎_elim
    (λ o. ⊎_elim (λ p. inl (p.same_track, inl (omega (arithℤ, p.after), omega (arithℤ, p.upto, gap x y o)))) inr
    (steps_on up down east east_on (λ z. inl refl) (λ p q e. omega arithℤ) (nat_abs (y -ℤ x)) x t rest q (rw (to_east x y t rest o) at h)))
    (λ o. let le : y ≤ℤ x = omega arithℤ in ⊎_elim (λ p. inl (p.same_track, inr (omega (arithℤ, p.upto, gap y x le), omega (arithℤ, p.after)))) inr
    (steps_on down up west west_on west_near (λ p q e. omega arithℤ) (nat_abs (x -ℤ y)) x t rest q (rw (to_west x y t rest o) at h)))
    (≤_or_< x y)

along_rest : (x y : ℤ) (t : ℕ) (rest : List Point) (q : Point) → Among q rest → Among q (along x y t rest)
along_rest x y t rest q on =
    ⊎_elim (λ h. rw (to_east x y t rest h) (steps_rest east (nat_abs (y -ℤ x)) x t rest q on))
    (λ h. rw (to_west x y t rest h) (steps_rest west (nat_abs (x -ℤ y)) x t rest q on))
    (≤_or_< x y)

along_has : (x y : ℤ) (t : ℕ) (rest : List Point) (q : Point) → q.track ≡ t → Between q.column x y → (q ≡ at x t) ⊎ Among q (along x y t rest)
along_has x y t rest q e b = ⊎_elim eastward westward (≤_or_< x y)
  where
    eastward : x ≤ℤ y → (q ≡ at x t) ⊎ Among q (along x y t rest)
    eastward h =
        ⊎_elim (λ k. inl (same_point q (at x t) (⊎_elim (λ z. omega arithℤ) (λ z. omega arithℤ) b) e))
        (λ k. inr (rw (to_east x y t rest h) (steps_has up down east east_on (λ z. inl refl) (λ p q e. omega arithℤ) (nat_abs (y -ℤ x)) x t rest q
        (record { same_track = e; after = omega arithℤ; upto = ⊎_elim (λ z. omega (arithℤ, gap x y h)) (λ z. omega (arithℤ, gap x y h)) b }))))
        (≤_or_< q.column x)

    westward : y <ℤ x → (q ≡ at x t) ⊎ Among q (along x y t rest)
    westward h =
        let le : y ≤ℤ x = omega arithℤ in
        ⊎_elim (λ k. inl (same_point q (at x t) (⊎_elim (λ z. omega arithℤ) (λ z. omega arithℤ) b) e))
        (λ k. inr (rw (to_west x y t rest h) (steps_has down up west west_on west_near (λ p q e. omega arithℤ) (nat_abs (x -ℤ y)) x t rest q
        (record { same_track = e; after = omega arithℤ; upto = ⊎_elim (λ z. omega (arithℤ, gap y x le)) (λ z. omega (arithℤ, gap y x le)) b }))))
        (≤_or_< x q.column)

up_leads : (e : ℕ → ℤ) (t m s : ℕ) → t + m ≡ s → Leads s (e s) (at (e t) t) (up_from e t m)
unfolding up_from
up_leads e t zero s h = let k : t ≡ s = omega arith in same_point _ _ (ap e k) k
up_leads e t (suc m) s h =
    along_leads (e t) (e (suc t)) s t (e s) _ (omega arith)
    (omega arith, inr (refl, inl (omega arith)), up_leads e (suc t) m s (omega arith))

-- a run from a column to itself has no points but its first
along_nowhere : (x y : ℤ) (t : ℕ) (rest : List Point) → y ≡ x → along x y t rest ≡ rest
unfolding steps
along_nowhere x y t rest e =
    let le : x ≤ℤ y = omega arithℤ in
    let k : nat_abs (y -ℤ x) ≡ 0 = omega (arithℤ, gap x y le) in
    to_east x y t rest le ∙ rw k

up_high : (e : ℕ → ℤ) (t m : ℕ) (q : Point) → Among q (up_from e t m) → t ≤ q.track
unfolding up_from
up_high e t zero q on = absurd on
up_high e t (suc m) q on =
    ⊎_elim (λ k. omega (arith, k.0))
    (λ k. ⊎_elim (λ h. omega (arith, ap (λ (p : Point). p.track) h)) (λ h. omega (arith, up_high e (suc t) m q h)) k)
    (along_on (e t) (e (suc t)) t _ q on)

-- where the wire goes straight up from its pad, none of its other points stands on track 0
up_lifted : (e : ℕ → ℤ) (s : ℕ) → (0 < s → e 1 ≡ e 0) → Lifted (up_from e 0 s)
unfolding up_from
up_lifted e zero rises q on = absurd on
up_lifted e (suc m) rises q on =
    let above = rw (along_nowhere (e 0) (e 1) 0 _ (rises (omega arith))) at on in
    ⊎_elim (λ h z. omega (arith, ap (λ (p : Point). p.track) h)) (λ h z. omega (arith, up_high e 1 m q h)) above

-- every column of the table is joined to the next: the list is a wire
pub wire_wire : (e : ℕ → ℤ) (s : ℕ) → (0 < s → e 1 ≡ e 0) → Wire s (e 0) (e s) (wire_of e s)
unfolding wire_of
wire_wire e s rises = walk_wire s (e 0) (e s) (wire_of e s) (refl, up_leads e 0 s s (omega arith), up_lifted e s rises)

at_fills : (e : ℕ → ℤ) (s t : ℕ) (q : Point) → t ≤ s → q ≡ at (e t) t → Fills e s q
at_fills e s t q le h =
    let f : q.track ≡ t = ap (λ (p : Point). p.track) h in
    let g : q.column ≡ e t = ap (λ (p : Point). p.column) h in
    pick f g (ℕ_discrete t s)
  where
    pick : q.track ≡ t → q.column ≡ e t → Dec (t ≡ s) → Fills e s q
    pick f g (yes z) = inr (omega arith, g ∙ ap e z)
    pick f g (no z) = inl (omega arith, rw f (⊎_elim (λ o. inl (omega arithℤ, omega arithℤ)) (λ o. inr (omega arithℤ, omega arithℤ)) (≤_or_< (e t) (e (suc t)))))

up_on : (e : ℕ → ℤ) (t m s : ℕ) → t + m ≡ s → (q : Point) → Among q (up_from e t m) → Fills e s q
unfolding up_from
up_on e t zero s h q on = absurd on
up_on e t (suc m) s h q on =
    ⊎_elim (λ k. inl (omega (arith, k.0), rw k.0 k.1))
    (λ k. ⊎_elim (at_fills e s (suc t) q (omega arith)) (up_on e (suc t) m s (omega arith) q) k)
    (along_on (e t) (e (suc t)) t _ q on)

up_has : (e : ℕ → ℤ) (t m s : ℕ) → t + m ≡ s → (q : Point) → t ≤ q.track → Fills e s q → (q ≡ at (e t) t) ⊎ Among q (up_from e t m)
unfolding up_from
up_has e t zero s h q le (inl f) = absurd (omega arith)
up_has e t zero s h q le (inr f) = let k : s ≡ t = omega arith in inl (same_point q (at (e t) t) (rw k at f.1) (omega arith))
up_has e t (suc m) s h q le f = go (ℕ_discrete q.track t) (λ l. up_has e (suc t) m s (omega arith) q l f)
  where
    here : q.track ≡ t → Fills e s q → Between q.column (e t) (e (suc t))
    here k (inl z) = rw k at z.1
    here k (inr z) = absurd (omega arith)

    rest : List Point
    rest = at (e (suc t)) (suc t) ∷ up_from e (suc t) m

    go : Dec (q.track ≡ t) → (suc t ≤ q.track → Among q rest) → (q ≡ at (e t) t) ⊎ Among q (along (e t) (e (suc t)) t rest)
    go (yes k) r = along_has (e t) (e (suc t)) t rest q k (here k f)
    go (no k) r = inr (along_rest (e t) (e (suc t)) t rest q (r (omega arith)))

-- THE POINTS OF A WIRE are those that its columns mean
pub wire_fills : (e : ℕ → ℤ) (s : ℕ) (q : Point) → On q (wire_of e s) ↔ Fills e s q
unfolding wire_of
wire_fills e s q = (
  (λ on. ⊎_elim (at_fills e s 0 q (omega arith)) (up_on e 0 s s (omega arith) q) (on_among q (wire_of e s) on)),
  (λ f. among_on q (wire_of e s) (up_has e 0 s s (omega arith) q (omega arith) f)),
)

-- a wire of a table starts on its first column and ends on its last
leads_end : (s : ℕ) (c c' : ℤ) (p : Point) (r : List Point) → Leads s c p r → Leads s c' p r → c ≡ c'
leads_end s c c' p [] l l' = ap (λ (z : Point). z.column) (sym l ∙ l')
leads_end s c c' p (q ∷ r) l l' = leads_end s c c' q r l.2 l'.2

pub wire_starts : (e : ℕ → ℤ) (s : ℕ) (a c : ℤ) → Wire s a c (wire_of e s) → e 0 ≡ a
unfolding wire_of
wire_starts e s a c w = ap (λ (z : Point). z.column) w.starts

pub wire_ends : (e : ℕ → ℤ) (s : ℕ) (a c : ℤ) → Wire s a c (wire_of e s) → e s ≡ c
unfolding wire_of
wire_ends e s a c w = leads_end s (e s) c (at (e 0) 0) (up_from e 0 s) (up_leads e 0 s s (omega arith)) (wire_walk s a c (wire_of e s) w).1

-- and its second column is its first: it passes that column on track 0, and its only point there is its first
pub wire_rises : (e : ℕ → ℤ) (s : ℕ) (a c : ℤ) → Wire s a c (wire_of e s) → 0 < s → e 1 ≡ e 0
unfolding wire_of
wire_rises e s a c w h =
    let between : Between (e 1) (e 0) (e 1) = ⊎_elim (λ o. inl (o, omega arithℤ)) (λ o. inr (omega arithℤ, omega arithℤ)) (≤_or_< (e 0) (e 1)) in
    go ((wire_fills e s (at (e 1) 0)).1 (inl (h, between)))
  where
    go : On (at (e 1) 0) (wire_of e s) → e 1 ≡ e 0
    go (zero, l, p) = ap (λ (z : Point). z.column) (sym p)
    go (suc k, l, p) = absurd (w.leaves k (omega arith) (rw (add-one k) (ap (λ (z : Point). z.track) p)))

-- each wire goes straight up from its pad, and keeps to the left of those after it, on each track and from each track to the next
pub record Ordered (n s : ℕ) (a c : ℕ → ℤ) (e : ℕ → ℕ → ℤ) : Type 0 where
  pub bottom : (i : ℕ) → i < n → e i 0 ≡ a i
  pub rises : (i : ℕ) → i < n → 0 < s → e i 1 ≡ e i 0
  pub top : (i : ℕ) → i < n → e i s ≡ c i
  pub clear : (i j : ℕ) → i < j → j < n → (t t' : ℕ) → t ≤ s → t' ≤ s → t ≤ suc t' → t' ≤ suc t → e i t <ℤ e j t'

-- a point of a wire stands between two columns of its table, at its own track or the next
record Stands (e : ℕ → ℤ) (s : ℕ) (q : Point) : Type 0 where
  lo : ℕ
  hi : ℕ
  lo_at : (q.track ≤ lo) × (lo ≤ suc q.track) × (lo ≤ s)
  hi_at : (q.track ≤ hi) × (hi ≤ suc q.track) × (hi ≤ s)
  right_of : e lo ≤ℤ q.column
  left_of : q.column ≤ℤ e hi

stands : (e : ℕ → ℤ) (s : ℕ) (q : Point) → Fills e s q → Stands e s q
stands e s q (inl f) =
    ⊎_elim (λ b. record { lo = q.track; hi = suc q.track; lo_at = omega arith; hi_at = omega arith; right_of = b.0; left_of = b.1 })
    (λ b. record { lo = suc q.track; hi = q.track; lo_at = omega arith; hi_at = omega arith; right_of = b.0; left_of = b.1 })
    f.1
stands e s q (inr f) = record { lo = s; hi = s; lo_at = omega arith; hi_at = omega arith; right_of = omega (arithℤ, f.1); left_of = omega (arithℤ, f.1) }

pub ordered_legal : {n s : ℕ} {a c : ℕ → ℤ} {e : ℕ → ℕ → ℤ} → Ordered n s a c e → LegalTable n s a c e
ordered_legal {n} {s} {a} {c} {e} T =
    record {
      wires = λ i lt. rw (← T.bottom i lt, ← T.top i lt) (wire_wire (e i) s (T.rises i lt));
      apart = λ i j lt lt' p x y. clash i j lt lt' p (stands (e i) s p ((wire_fills (e i) s p).0 x)) (stands (e j) s p ((wire_fills (e j) s p).0 y));
    }
  where
    clash : (i j : ℕ) → i < j → j < n → (p : Point) → Stands (e i) s p → Stands (e j) s p → ⊥
    clash i j lt lt' p x y =
        let near : (x.hi ≤ suc y.lo) × (y.lo ≤ suc x.hi) = omega (arith, x.hi_at, y.lo_at) in
        let less = T.clear i j lt lt' x.hi y.lo x.hi_at.2 y.lo_at.2 near.0 near.1 in
        omega (arithℤ, x.left_of, y.right_of, less)
