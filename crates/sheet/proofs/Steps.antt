-- A state owes what the events call for.
-- Sections: what a state has to write; a step; a fresh sheet; the end of a sheet; a piece of a sheet.
use Rattle.std.proofs.Common.{◌&&◌, ◌||◌, Option, None, Some}
use Rattle.std.specs.Option.{is_some, MatchOption}
use Rattle.frame.specs.declared.write.Answer.{Answer}
use mathlib.Core.Path.{◌≡◌, refl, sym, ap, ◌∙◌}
use mathlib.Core.Bool.{Bool, false, true≢false}
use mathlib.Core.List.{List, [], ◌∷◌, ◌++◌, append-nil}
use Prim.Native.Nat.{ℕ, zero, suc, ◌≤◌}
use native.Mathlib.Omega.{arith}
use lib.Dec.{eqb, ltb, leb}
use lib.ListN.{length, take, length-take}
use lib.IntN.{ℤ}
use borrow.Author.Tests.{le-leb, eqb-true, ltb-false}
use Rattle.jumper.specs.Refusals.{refusal_numbers}
use Rattle.jumper.specs.declared.refusal.Numbers.{Numbers}
use Rattle.frame.specs.Frame.{Frame, bad, text_frame}
use Rattle.frame.specs.Written.{answer_line}
use Rattle.frame.specs.declared.read.Order.{Order}
use Rattle.frame.proofs.Scan.{either}
use Rattle.events.specs.Events.{Mode, ready, inside, skipping, Event, mode_after, event, at_end, noted, events, events_of}
use Rattle.events.specs.Steps.{mode_of, seen_by, step_of, inside_told, told_by, cut_first, tells, Begun, Told, Stepped}
use Rattle.events.specs.declared.machine.Machine.{Machine}
use Rattle.events.specs.declared.machine.OpenLine.{OpenLine}
use Rattle.events.specs.declared.machine.Phase.{Phase}
use Rattle.events.specs.declared.machine.Phase.TheVariants.{Ready, Inside, Skipping}
use Rattle.events.specs.declared.step.Did.{Did}
use Rattle.events.specs.declared.step.Did.TheVariants.{Opened, Filled, Completed, Refused, Passed}
use Rattle.events.specs.declared.step.Step.{Step}
use Rattle.events.proofs.Agree.{events_agree}
use Rattle.route.proofs.Texts.{whole_route, no_moves}
use Rattle.sheet.specs.Planned.{planned, PlanTold}
use Rattle.sheet.specs.Machine.{shown, refusal_text, line_text, text_of, told, answers}
use Rattle.sheet.specs.Steps.{complete, due_after, after}
use Rattle.sheet.specs.Owes.{frames_from, last_frame, cut_text, due_text, left_text, pending, later, owes, has_wires, is_busy, Fresh, Busy, Finished}
use Rattle.sheet.specs.Parts.{Reacted, Kept, NoFeed}
use Rattle.sheet.specs.declared.state.Route.{Route}
use Rattle.sheet.specs.declared.state.State.{State}
use Rattle.sheet.proofs.Lines.{sheet_frames}

-- ---- what a state has to write

-- the answer of a line, and its route from the start
abbrev line_left : Step → Order → Numbers → (a b : List ℤ) → List ℕ
line_left t o k a b = answer_line (shown o.line k) ++ left_text (complete t o k).route a b

complete_text : (t : Step) (o : Order) (a b : List ℤ) (k : Numbers) → o.pairs ≤ 2048 → PlanTold o.separation o.offset (take o.pairs a) (take o.pairs b) k
    → line_left t o k a b ≡ line_text o.line (planned o.separation o.offset (take o.pairs a) (take o.pairs b)) (take o.pairs a) (take o.pairs b)
unfolding left_text line_text
complete_text t o a b k small plan =
    let A : List ℤ = take o.pairs a in
    let B : List ℤ = take o.pairs b in
    rw (sym plan.is)
    (either (eqb k.refusal 0)
    (λ e.
    simp (e, le-leb _ _ small, whole_route o.line k.separation k.lowest A B (plan.asked (eqb-true _ _ e))))
    (λ e. simp e))

-- ---- a step

-- what answers a step: the line that it cut off, then what it did
cut_told : (l : Option ℕ) (e : Event) → text_of (cut_first l e) ≡ cut_text l ++ text_of e
cut_told None e = refl
cut_told (Some l) e = refl

step_text : (t : Step) (a b : List ℤ) → text_of (tells t a b) ≡ cut_text t.cut ++ text_of (told_by t.did t.machine a b)
unfolding tells
step_text t a b = cut_told t.cut (told_by t.did t.machine a b)

-- nothing answers a line that is opened or filled
inside_text : (p : Phase) (e : OpenLine → Event) → ((q : OpenLine) → text_of (e q) ≡ []) → [] ≡ text_of (inside_told p e)
inside_text Ready e none = refl
inside_text (Inside q) e none = sym (none q)
inside_text Skipping e none = refl

-- that completes no line
abbrev Plain : Did → Type 0
Plain d = (o : Order) → d ≡ Completed o → ⊥

due_after_text : (d : Did) (m : Machine) (a b : List ℤ) → Plain d → due_text (due_after d) ++ [] ≡ text_of (told_by d m a b)
unfolding refusal_text
due_after_text Opened m a b h = inside_text m.phase _ (λ q. refl)
due_after_text Filled m a b h = inside_text m.phase _ (λ q. refl)
due_after_text (Completed o) m a b h = absurd (h o refl)
due_after_text (Refused l x) m a b h = append-nil (answer_line (shown l (refusal_numbers x)))
due_after_text Passed m a b h = refl

after_text : (t : Step) (a b : List ℤ) → Plain t.did → pending (after t) a b ≡ text_of (tells t a b)
unfolding pending left_text
after_text t a b h = ap (λ (z : List ℕ). cut_text t.cut ++ z) (due_after_text t.did t.machine a b h) ∙ sym (step_text t a b)

module _ (s : State) (a b : List ℤ) (f : Frame) (t : Step) (a' b' : List ℤ) (k : Stepped s.machine a b f t a' b') (r : State) where
  pub plain_reacted : Plain t.did → r ≡ after t → Reacted s a b f r a' b'
  plain_reacted h e = rw e (record { out = after_text t a' b' h ∙ ap text_of k.told.event; to = k.told.mode; seen = k.seen; begun = refl })

  pub completes_reacted : (o : Order) (n : Numbers) → t.did ≡ Completed o → PlanTold o.separation o.offset (take o.pairs a') (take o.pairs b') n
      → r ≡ complete t o n → Reacted s a b f r a' b'
  unfolding pending
  completes_reacted o n d plan e =
      rw e (record {
        out =
            ap (λ (l : List ℕ). cut_text t.cut ++ l)
            (complete_text t o a' b' n (k.told.few o d) plan ∙ sym (ap (λ (z : Did). text_of (told_by z t.machine a' b')) d))
            ∙ sym (step_text t a' b') ∙ ap text_of k.told.event;
        to = k.told.mode;
        seen = k.seen;
        begun = refl;
      })

-- ---- a fresh sheet

pub fresh_owes : (s : State) → s.at ≡ 0 → Begun s.machine → ((a b : List ℤ) → pending s a b ≡ []) → Fresh s
unfolding owes later answers events_of
fresh_owes s at k none =
    record {
      owed = λ line a b sheet.
          ap (λ (l : List ℕ). l ++ told (events (seen_by s.machine) (mode_of s.machine a b) (frames_from (take s.at line) sheet))) (none a b)
          ∙ ap (λ (n : ℕ). told (events (seen_by s.machine) (mode_of s.machine a b) (frames_from (take n line) sheet))) at
          ∙ ap (λ (m : Mode). told (events (seen_by s.machine) m (frames_from [] sheet))) (k.mode a b)
          ∙ ap told (events_agree (seen_by s.machine) (λ l. false) (λ l h. k.seen l) ready (frames_from [] sheet))
          ∙ ap (λ (fs : List Frame). told (events (λ l. false) ready fs)) (sheet_frames sheet);
    }

-- ---- the end of a sheet

full_text : (at : ℕ) (line : List ℕ) → length line ≡ 160 → (at ≡ 0 → ⊥) → last_frame (take at line) ≡ bad ∷ []
unfolding last_frame
full_text zero line h n = absurd (n refl)
full_text (suc at) [] h n = absurd (omega arith)
full_text (suc at) (x ∷ line) h n = refl

idle_text : (l : Option ℕ) (k : Option Answer) (r : Option Route) (a b : List ℤ) → (is_some l || is_some k || has_wires r) ≡ false
    → cut_text l ++ (due_text k ++ left_text r a b) ≡ []
unfolding left_text
idle_text (Some l) k r a b e = absurd (true≢false e)
idle_text None (Some k) r a b e = absurd (true≢false e)
idle_text None None None a b e = refl
idle_text None None (Some r) a b e =
    either (leb r.wires 2048)
    (λ w.
    let u : r.wires ≤ r.wire = ltb-false r.wire r.wires (simp w at e) in
    let n : length (take r.wires a) ≤ r.wire = simp length-take (omega arith) in
    simp (w, no_moves r.line r.separation r.offset (take r.wires a) (take r.wires b) r.wire r.track n))
    (λ w. simp w)

pub not_busy : (s : State) (a b : List ℤ) → is_busy s ≡ false → pending s a b ≡ []
unfolding is_busy pending
not_busy s a b e = idle_text s.cut s.due s.route a b e

pub busy_told : (s : State) (r : Bool) → r ≡ is_busy s → Busy s r
unfolding owes
busy_told s r e = record { answer = e; idle = λ f line a b rest. rw (not_busy s a b (sym e ∙ f)) }

pub wires_told : (o : Option Route) (v : Bool) (P : Route → Type 0) → MatchOption o (v ≡ false) P
    → ((r : Route) → P r → v ≡ (leb r.wires 2048 && ltb r.wire r.wires)) → v ≡ has_wires o
wires_told None v P m h = m
wires_told (Some r) v P m h = h r m

-- the end, and a last line without its line feed, complete no line; then it skips
module _ (n : ℕ) where
  end_plain : (m : Mode) → Plain (step_of (at_end m) n).did
  end_plain ready o e = cc
  end_plain (inside p a b) o e = cc
  end_plain skipping o e = cc

  rest_plain : (seen : ℕ → Bool) (m : Mode) → Plain (step_of (event seen m bad) n).did
  unfolding event
  rest_plain seen ready o e = cc
  rest_plain seen (inside p a b) o e = cc
  rest_plain seen skipping o e = cc

end_skips : (m : Mode) → mode_after (at_end m) ≡ skipping
end_skips ready = refl
end_skips (inside o a b) = refl
end_skips skipping = refl

rest_skips : (seen : ℕ → Bool) (m : Mode) → mode_after (event seen m bad) ≡ skipping
unfolding event
rest_skips seen ready = refl
rest_skips seen (inside o a b) = refl
rest_skips seen skipping = refl

module _ (s : State) (line : List ℕ) (a b : List ℤ) (full : length line ≡ 160) (idle : is_busy s ≡ false) (t : Step) (r : State) (is : r ≡ after t) where
  ends : (e : Event) (n : ℕ) → Told e n a b t a b → Plain (step_of e n).did → mode_after e ≡ skipping
      → told (events (seen_by s.machine) (mode_of s.machine a b) (last_frame (take s.at line))) ≡ text_of e → Finished s line a b r
  unfolding owes later frames_from last_frame events told
  ends e n k plain skips q =
      let mode : mode_of t.machine a b ≡ skipping = k.mode ∙ skips in
      let text : pending (after t) a b ≡ text_of e = after_text t a b (rw k.answer plain) ∙ ap text_of k.event in
      rw is (record {
        owed = simp (not_busy s a b idle) (q ∙ sym text ∙ sym (append-nil (pending (after t) a b)) ∙ ap (λ (l : List ℕ). pending (after t) a b ++ l) (sym (simp mode)));
        ended = λ h. simp mode;
        busy = λ h. absurd (true≢false (sym h ∙ idle));
      })

  pub ends_fed : s.at ≡ 0 → Told (at_end (mode_of s.machine a b)) s.machine.seen a b t a b → Finished s line a b r
  unfolding last_frame events told
  ends_fed z k = ends _ _ k (end_plain _ (mode_of s.machine a b)) (end_skips (mode_of s.machine a b)) (simp (z, append-nil))

  pub ends_cut : (s.at ≡ 0 → ⊥) → Stepped s.machine a b bad t a b → Finished s line a b r
  unfolding events told
  ends_cut z k =
      let m : Mode = mode_of s.machine a b in
      ends _ _ k.told (rest_plain _ (seen_by s.machine) m) (rest_skips (seen_by s.machine) m)
      (simp (full_text s.at line full z, rest_skips (seen_by s.machine) m, append-nil))

-- ---- a piece of a sheet

-- a line that the piece goes on with, as far as the piece has it: its text is kept
pub kept_owes : (s : State) (line : List ℕ) (a b : List ℤ) (piece : List ℕ) (at' : ℕ) (line' : List ℕ) → Kept line s.at piece at' line' → NoFeed piece
    → (rest : List ℕ) → owes s line a b (piece ++ rest) ≡ owes (record s { at = at' }) line' a b rest
unfolding owes later pending
kept_owes s line a b piece at' line' k none rest =
    ap (λ (fs : List Frame). pending s a b ++ told (events (seen_by s.machine) (mode_of s.machine a b) fs)) (k.frames none rest)

-- a line whose text is whole
pub fed_owes : (s : State) (line : List ℕ) (a b : List ℤ) (piece t left : List ℕ) → is_busy s ≡ false
    → ((rest : List ℕ) → frames_from (take s.at line) (piece ++ rest) ≡ text_frame t ∷ frames_from [] (left ++ rest))
    → (r : State) (line' : List ℕ) (a' b' : List ℤ) → Reacted s a b (text_frame t) r a' b'
    → (rest : List ℕ) → owes s line a b (piece ++ rest) ≡ owes r line' a' b' (left ++ rest)
unfolding owes later events told
fed_owes s line a b piece t left idle whole r line' a' b' f rest =
    let R : List ℕ = left ++ rest in
    let x : Frame = text_frame t in
    let seen : ℕ → Bool = seen_by s.machine in
    let m : Mode = mode_of s.machine a b in
    let first : owes s line a b (piece ++ rest) ≡ text_of (event seen m x) ++ told (events (noted seen x) (mode_after (event seen m x)) (frames_from [] R)) =
    ap (λ (fs : List Frame). pending s a b ++ told (events seen m fs)) (whole rest)
    ∙ ap (λ (p : List ℕ). p ++ told (events seen m (x ∷ frames_from [] R))) (not_busy s a b idle) in
    let same : events (noted seen x) (mode_of r.machine a' b') (frames_from [] R) ≡ events (seen_by r.machine) (mode_of r.machine a' b') (frames_from [] R) =
    events_agree (noted seen x) (seen_by r.machine) (λ l g. sym (f.seen l g)) (mode_of r.machine a' b') (frames_from [] R) in
    let at0 : take r.at line' ≡ [] = ap (λ (n : ℕ). take n line') f.begun in
    first
    ∙ ap (λ (p : List ℕ). p ++ told (events (noted seen x) (mode_after (event seen m x)) (frames_from [] R))) (sym f.out)
    ∙ ap (λ (y : Mode). pending r a' b' ++ told (events (noted seen x) y (frames_from [] R))) (sym f.to)
    ∙ ap (λ (es : List Event). pending r a' b' ++ told es) same
    ∙ ap (λ (p : List ℕ). pending r a' b' ++ told (events (seen_by r.machine) (mode_of r.machine a' b') (frames_from p R))) (sym at0)
