-- WHAT THE CALLS PROMISE, from what their parts find.
-- Sections: the check; still_fits; part_route.
use Rattle.std.specs.Prelude.{Ok, Err}
use mathlib.Core.Path.{◌≡◌, refl, sym, ◌∙◌}
use mathlib.Core.List.{List}
use mathlib.Core.Logic.{inl, inr, ⊎_elim, ◌≢◌}
use Prim.Native.Nat.{ℕ, ◌+◌, ◌*◌, ◌≤◌, ◌<◌}
use native.Mathlib.Decide.{dec_lt}
use native.Mathlib.Omega.{arith}
use borrow.Author.Tests.{eq-eqb, ne_eqb, lt-ltb, le-ltb}
use lib.Dec.{eqb}
use lib.ListN.{length, drop}
use lib.IntN.{ℤ}
use Rattle.wiring.specs.Wiring.{pad, top_pad}
use Rattle.wiring.proofs.Parts.{part_length, dropped_legal, dropped_wiring}
use Rattle.jumper.specs.Refusals.{refusal_numbers}
use Rattle.jumper.specs.Rows.{Checked, checked_numbers, pick}
use Rattle.jumper.specs.Asked.{check_asked, Asked}
use Rattle.jumper.specs.declared.refusal.Refusal.{Refusal}
use Rattle.jumper.specs.declared.refusal.Refusal.TheVariants.{Unequal, Empty, Buffer}
use Rattle.jumper.proofs.Accepted.{numbered, refused_not}
use Rattle.jumper.proofs.Checks.{asked_accepted, Early, early_pick, early_or, early_asked}
use Rattle.fit.specs.Misfit.{FitAnswer}
use Rattle.route.specs.Table.{column_in, LegalRoute}
use Rattle.route.specs.Check.{RouteCheck}
use Rattle.route.proofs.Places.{wires_at}
use Rattle.route.proofs.Answers.{legal_same}
use Rattle.parts.specs.Stays.{kept, row_kept, wire_kept, stays_fault, check_part, AskedPart}
use Rattle.parts.specs.declared.stays.Part.{Part}
use Rattle.parts.specs.Still.{StillAnswer}
use Rattle.parts.specs.Routed.{places_kept, part_written, Short, RoutedAnswer}
use Rattle.parts.proofs.Remains.{part_choice, part_asked}

-- what a part's check says of the part that it lets through
abbrev pub Through : (a b : List ℤ) (stays : List ℕ) (s : ℕ) (d : ℤ) → Part → Type 0
Through a b stays s d p =
    (p.question.rows.bottom.now ≡ a) × (p.question.rows.top.now ≡ b) × (p.stays.now ≡ stays) × (p.question.separation ≡ s) × (p.question.offset ≡ d)

module _ (a b : List ℤ) (stays : List ℕ) (s : ℕ) (d : ℤ) where
  -- THE CHECK lets through all that is accepted; that it lets nothing else through, its part keeps
  stays_accepted : AskedPart a b stays s d → stays_fault a b stays ≡ Ok tt
  stays_accepted k =
      let some = ne_eqb (length (kept stays)) 0 (λ z. omega (arith, k.some)) in
      rw (eq-eqb (length a) (length b) k.whole.rows.equal, eq-eqb (length a) (length stays) k.bytes, some)

  part_accepted : AskedPart a b stays s d → check_part a b stays s d ≡ Ok tt
  part_accepted k = rw (stays_accepted k) (asked_accepted a b s d k.whole)

  pub asked_part : (p : Part) → Through a b stays s d p → AskedPart a b stays s d
  asked_part p e = rw (e.0, e.1, e.2, e.3, e.4) at p.asked

  -- its refusals are 1 to 7
  early_part : Early 7 (check_part a b stays s d)
  early_part =
      let n = length (kept stays) in
      let some = pick (eqb n 0) (Err Empty) (Ok tt) in
      let bytes = pick (eqb (length a) (length stays)) some (Err Unequal) in
      let early-some = early_pick 7 (eqb n 0) (Err Empty) (Ok tt) (omega arith) tt in
      let early-bytes = early_pick 7 (eqb (length a) (length stays)) some (Err Unequal) early-some (omega arith) in
      let early-stays = early_pick 7 (eqb (length a) (length b)) bytes (Err Unequal) early-bytes (omega arith) in
      early_or 7 (stays_fault a b stays) (check_asked a b s d) early-stays (early_asked a b s d)

  -- STILL_FITS
  module _ (r : Refusal) (e : check_part a b stays s d ≡ Err r) where
    unasked : AskedPart a b stays s d → ⊥
    unasked k = refused_not r (sym e ∙ part_accepted k)

    early : Early 7 (Err r)
    early = rw e at early_part

    pub still_refused : StillAnswer a b stays s d (Err r)
    still_refused =
        record {
          answer = sym (rw e);
          fits = ((λ z. absurd (numbered r z)), (λ z. absurd (unasked z.0)));
          prevents = ((λ z. absurd (omega (arith, early))), (λ z. absurd (unasked z.0)));
          witness = λ z. absurd (omega (arith, early));
          serves = λ k w. absurd (unasked k);
        }

  -- what `fit` answers of the rows left
  pub still_found : AskedPart a b stays s d → (r : Checked) → FitAnswer (row_kept stays a) (row_kept stays b) s d r → StillAnswer a b stays s d r
  still_found k r f =
      let l = part_asked k in
      record {
        answer = f.answer ∙ rw (asked_accepted _ _ _ _ l, part_accepted k);
        fits = ((λ z. (k, (f.fits.0 z).1)), (λ z. f.fits.1 (l, z.1)));
        prevents = ((λ z. (k, (f.prevents.0 z).1)), (λ z. f.prevents.1 (l, z.1)));
        witness = f.witness;
        serves = λ q w. f.fits.1 (l, dropped_wiring a b (part_choice k) s d w);
      }

-- PART_ROUTE, of the old table and of what the buffer holds before
module _ (a b : List ℤ) (stays : List ℕ) (s : ℕ) (d : ℤ) (table out : List ℤ) where
  pub routed_early : (r : Refusal) → check_part a b stays s d ≡ Err r → RoutedAnswer a b stays s d table out out (Err r)
  routed_early r e =
      let not = unasked a b stays s d r e in
      let l = early a b stays s d r e in
      record {
        answer = sym (rw e);
        buffer = refl;
        refused = λ z. refl;
        routes = ((λ z. absurd (numbered r z)), (λ z. absurd (not z.0)));
        short = ((λ z. absurd (omega (arith, l))), (λ z. absurd (not z.0)));
        faulty = ((λ z. absurd (omega (arith, l))), (λ z. absurd (not z.0)));
        fault = λ z. absurd (omega (arith, l));
        places = λ z. absurd (numbered r z);
        legal = λ z. absurd (numbered r z);
      }

  module _ (k : AskedPart a b stays s d) where
    e : check_part a b stays s d ≡ (Ok tt)
    e = part_accepted a b stays s d k

    pub routed_short : length out < places_kept stays s → RoutedAnswer a b stays s d table out out (Err Buffer)
    routed_short h =
        record {
          answer = sym (rw (e, lt-ltb (length out) (places_kept stays s) h));
          buffer = refl;
          refused = λ z. refl;
          routes = ((λ z. absurd (omega arith)), (λ z. absurd (omega (arith, z.1.1))));
          short = ((λ z. (k, inr h)), (λ z. refl));
          faulty = ((λ z. absurd (omega arith)), (λ z. absurd (omega (arith, z.1.1))));
          fault = λ z. absurd (omega arith);
          places = λ z. absurd (omega arith);
          legal = λ z. absurd (omega arith);
        }

    module _ (room : places_kept stays s ≤ length out) where
      -- the checker gives BUFFER exactly for a short table: of one that it can read it says 0 or 16
      module _ (r : Checked) (f : RouteCheck a b s d table r) where
        table_short : length table < length a * (s + 1) → (checked_numbers r).refusal ≡ 9
        table_short h =
            let e : r ≡ Err Buffer = f.answer ∙ rw (asked_accepted a b s d k.whole, lt-ltb (length table) (length a * (s + 1)) h) in
            rw e

        table_long : length a * (s + 1) ≤ length table → (checked_numbers r).refusal ≢ 9
        table_long h z =
            let unlawful : LegalRoute a b s d table → ⊥ = λ l. omega (arith, z, f.accepts.1 (k.whole, h, l)) in
            omega (arith, z, f.refuses.1 (k.whole, h, unlawful))

      pub routed_refused : (r : Refusal) → RouteCheck a b s d table (Err r) → RoutedAnswer a b stays s d table out out (Err r)
      routed_refused r f =
          record {
            answer = f.answer ∙ sym (rw (e, le-ltb (length out) (places_kept stays s) room));
            buffer = refl;
            refused = λ z. refl;
            routes = ((λ z. absurd (numbered r z)), (λ z. f.accepts.1 (k.whole, z.1.0, z.2)));
            short = (
              (λ z. (k, is_short z (dec_lt (length table) (length a * (s + 1))))),
              (λ z. ⊎_elim (table_short (Err r) f) (λ h. absurd (omega arith)) z.1),
            );
            faulty = ((λ z. let q = f.refuses.0 z in (k, (q.1, room), q.2)), (λ z. f.refuses.1 (k.whole, z.1.0, z.2)));
            fault = f.fault;
            places = λ z. absurd (numbered r z);
            legal = λ z. absurd (numbered r z);
          }
        where
          is_short : (refusal_numbers r).refusal ≡ 9 → Dec (length table < length a * (s + 1)) → Short a stays s table out
          is_short z (yes h) = inl h
          is_short z (no h) = absurd (table_long (Err r) f (omega arith) z)

      -- the table was legal, so the wires that stay are a legal wiring of the part
      pub routed_done : RouteCheck a b s d table (Ok tt) → (out' : List ℤ) → out' ≡ part_written stays s table out
          → RoutedAnswer a b stays s d table out out' (Ok tt)
      routed_done f out' g =
          record {
            answer = f.answer ∙ sym (rw (e, le-ltb (length out) (places_kept stays s) room));
            buffer = g;
            refused = λ z. absurd (z refl);
            routes = ((λ z. (k, (was.1, room), was.2)), (λ z. refl));
            short = ((λ z. absurd (omega arith)), (λ z. ⊎_elim (λ h. absurd (omega (arith, was.1))) (λ h. absurd (omega arith)) z.1));
            faulty = ((λ z. absurd (omega arith)), (λ z. absurd (z.2 was.2)));
            fault = λ z. absurd (omega arith);
            places = λ z i t. there i t;
            legal = λ z.
                legal_same (length (row_kept stays a)) s (pad (row_kept stays a)) (top_pad (row_kept stays b) d) (wire_kept stays s table) (column_in out' s)
                (λ i t h l. sym (there i t (omega (arith, part_length (kept stays) a)) l))
                (dropped_legal a b (part_choice k) s d was.2);
          }
        where
          was : Asked a b s d × (length a * (s + 1) ≤ length table) × LegalRoute a b s d table
          was = f.accepts.0 refl

          there : (i t : ℕ) → i < length (kept stays) → t ≤ s → column_in out' s i t ≡ wire_kept stays s table i t
          there i t h l = rw g (wires_at (wire_kept stays s table) s (length (kept stays)) i t (drop (places_kept stays s) out) h l)
