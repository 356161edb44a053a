-- Taking in and giving, together; and the law of the whole sheet: however it is cut in pieces and however small the buffers are, what comes out
-- in all is its answer, where each call writes from the buffer's start.
use lib.IntN.{ℤ}
use mathlib.Core.Path.{◌≡◌, refl, sym, ap, ◌∙◌}
use mathlib.Core.Bool.{false}
use mathlib.Core.List.{List, [], ◌++◌, append_assoc, append-nil}
use Prim.Native.Nat.{ℕ, ◌+◌, ◌-◌, ◌≤◌}
use native.Mathlib.Omega.{arith}
use lib.ListN.{length, drop, take, length-drop}
use lib.Seq.{take_all, drop-drop}
use Rattle.sheet.specs.Machine.{answers}
use Rattle.sheet.specs.Owes.{pending, later, owes, Fresh, Busy, Given, Fed, Finished}
use Rattle.sheet.specs.Parts.{TakenIn}
use Rattle.sheet.specs.declared.state.State.{State}

pub gave_on : (s r : State) (line : List ℕ) (a b : List ℤ) (out out' : List ℕ) (n to : ℕ) → Given s a b out n r to out' → (rest : List ℕ)
    → take n out ++ owes s line a b rest ≡ take to out' ++ owes r line a b rest
unfolding owes
gave_on s r line a b out out' n to g rest =
    sym (append_assoc (take n out) (pending s a b) (later s line a b rest))
    ∙ ap (λ (l : List ℕ). l ++ later s line a b rest) g.gave
    ∙ ap (λ (l : List ℕ). (take to out' ++ pending r a b) ++ l) (sym (g.same line rest))
    ∙ append_assoc (take to out') (pending r a b) (later r line a b rest)

-- the part of the piece that is left
pub part : (piece : List ℕ) (used : ℕ) → used ≤ length piece → take (length piece - used) (drop used piece) ≡ drop used piece
part piece used h = take_all (length piece - used) (drop used piece) (simp length-drop (omega arith))

pub fed_more : {P : List ℕ} {W : List ℕ → List ℕ} {s r t : State} {line : List ℕ} {a b : List ℤ} {out out' line' : List ℕ} {a' b' : List ℤ} {n to u : ℕ}
    (piece : List ℕ) (used : ℕ)
    → P ≡ drop used piece
    → ((rest : List ℕ) → W rest ≡ take n out ++ owes s line a b (drop used piece ++ rest))
    → Given s a b out n r to out'
    → TakenIn r line a b P t u line' a' b'
    → (rest : List ℕ) → W rest ≡ take to out' ++ owes t line' a' b' (drop (used + u) piece ++ rest)
fed_more {r = r} {t = t} {line = line} {a = a} {b = b} {out' = out'} {line' = line'} {a' = a'} {b' = b'} {to = to} {u = u} piece used e inv g k rest =
    inv rest
    ∙ gave_on _ _ line _ _ _ _ _ _ g (drop used piece ++ rest)
    ∙ ap (λ (l : List ℕ). take to out' ++ l)
    (ap (λ (l : List ℕ). owes r line a b (l ++ rest)) (sym e) ∙ k.owed rest ∙ ap (λ (l : List ℕ). owes t line' a' b' (l ++ rest)) (ap (drop u) e ∙ drop-drop u used piece))

-- ---- a run of calls

-- from a state, the lent memory and the sheet that is left, to the same later on, with what was written on the way: calls of `feed` and of `give`,
-- each into a buffer from its start
pub data Run : State → List ℕ → List ℤ → List ℤ → List ℕ → List ℕ → State → List ℕ → List ℤ → List ℤ → List ℕ → Type 0 where
  here : {s : State} {line : List ℕ} {a b : List ℤ} {sheet : List ℕ} → Run s line a b sheet [] s line a b sheet
  feeds : {s r t : State} {line line' l piece out out' w left : List ℕ} {a b a' b' x y : List ℤ} {used to : ℕ} (rest : List ℕ)
      → Fed s line a b piece out 0 r used to line' a' b' out'
      → Run r line' a' b' (drop used piece ++ rest) w t l x y left
      → Run s line a b (piece ++ rest) (take to out' ++ w) t l x y left
  gives : {s r t : State} {line l out out' w sheet left : List ℕ} {a b x y : List ℤ} {to : ℕ}
      → Given s a b out 0 r to out'
      → Run r line a b sheet w t l x y left
      → Run s line a b sheet (take to out' ++ w) t l x y left

pub run_owes : {s t : State} {line sheet w l left : List ℕ} {a b x y : List ℤ} → Run s line a b sheet w t l x y left
    → owes s line a b sheet ≡ w ++ owes t l x y left
run_owes here = refl
run_owes (feeds {out' = out'} {w = w} {to = to} rest f p) = f.owed rest ∙ ap (λ (z : List ℕ). take to out' ++ z) (run_owes p)
    ∙ sym (append_assoc (take to out') w _)
run_owes (gives {s = s} {r = r} {line = line} {out = out} {out' = out'} {w = w} {sheet = sheet} {a = a} {b = b} {to = to} g p) =
    gave_on _ _ line _ _ _ _ _ _ g sheet ∙ ap (λ (z : List ℕ). take to out' ++ z) (run_owes p) ∙ sym (append_assoc (take to out') w _)

-- after the end: calls of `give` alone
pub data Drain (a b : List ℤ) : State → List ℕ → State → Type 0 where
  dry : {s : State} → Drain a b s [] s
  gives : {s r t : State} {out out' w : List ℕ} {to : ℕ} → Given s a b out 0 r to out' → Drain a b r w t → Drain a b s (take to out' ++ w) t

drained : {a b : List ℤ} {s t : State} {w : List ℕ} (line : List ℕ) → Drain a b s w t
    → (owes s line a b [] ≡ w ++ owes t line a b []) × (later t line a b [] ≡ later s line a b [])
drained line dry = (refl, refl)
drained {a = a} {b = b} line (gives {s = s} {r = r} {out = out} {out' = out'} {w = w} {to = to} g p) =
    let d = drained line p in
    (gave_on _ _ line _ _ _ _ _ _ g [] ∙ ap (λ (z : List ℕ). take to out' ++ z) d.0 ∙ sym (append_assoc (take to out') w _), d.1 ∙ g.same line [])

-- THE LAW: run from a fresh state over the whole sheet until `busy` says no, finish, and give until it says no again. What was written in all is the
-- answer to the sheet
pub whole_sheet : {s u v t : State} {line sheet w l w' : List ℕ} {a b x y : List ℤ} → Fresh s → Run s line a b sheet w u l x y [] → Busy u false
    → Finished u l x y v
    → Drain x y v w' t → Busy t false → w ++ w' ≡ answers sheet
whole_sheet {t = t} {line = line} {sheet = sheet} {w = w} {l = l} {w' = w'} {a = a} {b = b} {x = x} {y = y} f p idle g q idle' =
    let d = drained l q in
    let none : owes t l x y [] ≡ [] = idle'.idle refl l x y [] ∙ d.1 ∙ g.ended (sym idle.answer) in
    sym (sym (f.owed line a b sheet) ∙ run_owes p ∙ ap (λ (z : List ℕ). w ++ z) (g.owed ∙ d.0 ∙ ap (λ (z : List ℕ). w' ++ z) none ∙ append-nil w'))
