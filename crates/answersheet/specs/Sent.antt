-- What the parts of the program promise each other: which bytes they write, whatever the rest of the sheet is.
use Rattle.std.specs.Prelude.{◌≡◌, Option, List, ◌++◌, ℕ, take, false}
use Rattle.std.specs.Borrow.{MutBor}
use Rattle.std.specs.Io.KnownBytes.{Appends, Consumes}
use Rattle.sheet.specs.Owes.{later, owes, is_busy}
use Rattle.answersheet.specs.declared.Desk.{Desk}

-- all that is still to come out: what waits in the buffer, and what is owed for the rest of the sheet
abbrev pub due : {W E : Type 0} → Desk W E → List ℕ → List ℕ
due d rest = take d.out.n d.out.bytes ++ owes d.state d.line d.a d.b rest

-- what only the rest of the sheet brings
abbrev pub to_come : {W E : Type 0} → Desk W E → List ℕ → List ℕ
to_come d rest = later d.state d.line d.a d.b rest

-- These bytes were written, and the writer is the same.
pub record Writes {W : Type 0} (contents : W → Option (List ℕ)) (old new : MutBor W) (bytes : List ℕ) : Type 0 where
  pub same : new.ghost_name ≡ old.ghost_name
  pub appended : Appends (contents old.now) (contents new.now) bytes

-- Bytes were written, and with them came out what was due before and isn't due now.
pub record Sends {W : Type 0} (contents : W → Option (List ℕ)) (old new : MutBor W) (before after : List ℕ → List ℕ) : Type 0 where
  pub bytes : List ℕ
  pub wrote : Writes contents old new bytes
  pub left : (rest : List ℕ) → before rest ≡ bytes ++ after rest

-- Nothing waits any more, and the sheet stands where it stood.
pub record Sent {W E : Type 0} (old new : Desk W E) : Type 0 where
  pub none : new.out.n ≡ 0
  pub line : new.line ≡ old.line
  pub bottom : new.a ≡ old.a
  pub top : new.b ≡ old.b
  pub state : new.state ≡ old.state

-- Nothing is left to write but what the rest of the sheet brings, and that is as before.
pub record Drained {W E : Type 0} (old new : Desk W E) : Type 0 where
  pub idle : is_busy new.state ≡ false
  pub empty : (rest : List ℕ) → due new rest ≡ to_come new rest
  pub same : (rest : List ℕ) → to_come new rest ≡ to_come old rest

-- A piece of the sheet was read, and bytes were written.
pub record Reads {W : Type 0} (unread unread' : Option (List ℕ)) (contents : W → Option (List ℕ)) (old new : MutBor W) (before after : List ℕ → List ℕ) : Type 0 where
  pub piece : List ℕ
  pub taken : Consumes unread unread' piece
  pub sends : Sends contents old new (λ rest. before (piece ++ rest)) after
