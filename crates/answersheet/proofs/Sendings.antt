-- What calls that write do one after the other.
use Rattle.std.proofs.Common.{◌≡◌, refl, sym, ap, ◌∙◌, Option, List, [], ◌++◌, append_assoc, ℕ, ◌-◌, ◌≤◌, length, take, drop, arith}
use Rattle.std.proofs.lemmas.Grind.{common_steps}
use Rattle.std.specs.Borrow.{MutBor}
use Rattle.std.specs.Io.KnownBytes.{Consumes}
use Rattle.std.proofs.KnownBytes.{Appends-nil, Appends-trans, Consumes-nil, Consumes-trans}
use Rattle.answersheet.specs.Sent.{Sends, Reads}

-- what a slice gives of a piece from a place on
pub rest_of : (piece : List ℕ) (used : ℕ) → used ≤ length piece → take (length piece - used) (drop used piece) ≡ drop used piece
rest_of piece used h = grind (arith, common_steps)

module _ {W : Type 0} {contents : W → Option (List ℕ)} where
  -- one call after another; what is due between them may stand in another way
  pub sends_on : {o₀ o₁ o₂ : MutBor W} {f g h i : List ℕ → List ℕ} → Sends contents o₀ o₁ f g → ((rest : List ℕ) → g rest ≡ h rest) → Sends contents o₁ o₂ h i → Sends contents o₀ o₂ f i
  sends_on {o₀} {o₁} {o₂} {i = i} p e q = record {
    bytes = p.bytes ++ q.bytes;
    wrote = record {
      same = q.wrote.same ∙ p.wrote.same;
      appended = Appends-trans (contents o₀.now) (contents o₁.now) (contents o₂.now) p.bytes q.bytes p.wrote.appended q.wrote.appended;
    };
    left = λ rest. p.left rest ∙ ap (λ (l : List ℕ). p.bytes ++ l) (e rest ∙ q.left rest) ∙ sym (append_assoc p.bytes q.bytes (i rest));
  }

  -- the same call before more of the sheet
  pub sends_before : {o₀ o₁ : MutBor W} {f g : List ℕ → List ℕ} (piece : List ℕ) → Sends contents o₀ o₁ f g → Sends contents o₀ o₁ (λ rest. f (piece ++ rest)) (λ rest. g (piece ++ rest))
  sends_before piece p = record { bytes = p.bytes; wrote = p.wrote; left = λ rest. p.left (piece ++ rest) }

  -- nothing is read yet
  pub nothing_read : (u : Option (List ℕ)) (o : MutBor W) {f g : List ℕ → List ℕ} → ((rest : List ℕ) → f rest ≡ g rest) → Reads u u contents o o f g
  nothing_read u o e = record {
    piece = [];
    taken = Consumes-nil u;
    sends = record { bytes = []; wrote = record { same = refl; appended = Appends-nil (contents o.now) }; left = e };
  }

  -- one read after another
  pub reads_on : {u₀ u₁ u₂ : Option (List ℕ)} {o₀ o₁ o₂ : MutBor W} {f g h : List ℕ → List ℕ} (piece : List ℕ) → Reads u₀ u₁ contents o₀ o₁ f g → Consumes u₁ u₂ piece
      → Sends contents o₁ o₂ (λ rest. g (piece ++ rest)) h → Reads u₀ u₂ contents o₀ o₂ f h
  reads_on {u₀} {u₁} {u₂} piece p t q = record {
    piece = p.piece ++ piece;
    taken = Consumes-trans u₀ u₁ u₂ p.piece piece p.taken t;
    sends = simp append_assoc (sends_on (sends_before piece p.sends) (λ rest. refl) q);
  }
