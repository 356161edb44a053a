-- The machine asks of `seen` only numbers below 64.
use mathlib.Core.Path.{◌≡◌, refl, ap, ◌∙◌}
use mathlib.Core.Bool.{Bool, true, cond}
use mathlib.Core.List.{List, [], ◌∷◌}
use Prim.Native.Nat.{ℕ, ◌<◌}
use lib.Dec.{eqb, leb}
use borrow.Author.Tests.{leb-false}
use Rattle.frame.specs.Frame.{Frame, bad, header, bottom, top}
use Rattle.frame.specs.declared.read.Order.{Order}
use Rattle.frame.proofs.Scan.{either}
use Rattle.events.specs.Events.{Mode, ready, inside, skipping, Event, cuts, mode_after, headed, event, noted, events}

abbrev pub Agree : (f g : ℕ → Bool) → Type 0
Agree f g = (l : ℕ) → l < 64 → f l ≡ g l

module _ (f g : ℕ → Bool) (h : Agree f g) where
  headed_agree : (o : Order) → headed f o ≡ headed g o
  unfolding headed
  headed_agree o = either (leb 64 o.line) (λ e. simp e) (λ e. let q : f o.line ≡ g o.line = h o.line (leb-false 64 o.line e) in simp (e, q))

  event_agree : (m : Mode) (x : Frame) → event f m x ≡ event g m x
  unfolding event
  event_agree ready (header o) = headed_agree o
  event_agree ready bad = refl
  event_agree ready (bottom l cs) = refl
  event_agree ready (top l cs) = refl
  event_agree (inside o a b) bad = refl
  event_agree (inside o a b) (header o') = ap (cuts o.line) (headed_agree o')
  event_agree (inside o a b) (bottom l cs) = refl
  event_agree (inside o a b) (top l cs) = refl
  event_agree skipping (header o) = headed_agree o
  event_agree skipping bad = refl
  event_agree skipping (bottom l cs) = refl
  event_agree skipping (top l cs) = refl

  noted_agree : (x : Frame) → Agree (noted f x) (noted g x)
  noted_agree bad l k = h l k
  noted_agree (header o) l k = ap (cond (eqb l o.line) true) (h l k)
  noted_agree (bottom i cs) l k = h l k
  noted_agree (top i cs) l k = h l k

pub events_agree : (f g : ℕ → Bool) → Agree f g → (m : Mode) (fs : List Frame) → events f m fs ≡ events g m fs
unfolding events
events_agree f g h m [] = refl
events_agree f g h m (x ∷ fs) =
    ap (λ (e : Event). e ∷ events (noted f x) (mode_after e) fs) (event_agree f g h m x)
    ∙ ap (λ (es : List Event). event g m x ∷ es) (events_agree (noted f x) (noted g x) (noted_agree f g h x) (mode_after (event g m x)) fs)
