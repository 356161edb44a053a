use Rattle.std.proofs.Common.{◌≡◌, arith, length, drop, take, ◌+◌, ◌≤◌, ◌-◌, length-drop, length-take}
use Rattle.parts.proofs.Copies.{held_none, held_room, held_dropped, held_stays}
use Rattle.parts.proofs.keep.keep_wires.Goals as goal
use Rattle.parts.proofs.keep.keep_wires.Goals.{Then-stay-ne0, then-stay-ne0, else-stay-ne0}

-- the place of a wire that stays
room : (c : Then-stay-ne0) → c.loop-pair.place + (c.args.part.question.separation + 1) ≤ length c.args.out.now
room c = held_room c.loop-pair.invariant c.loop-pair-test.true c.if-stay-ne0.true c.requires.1

pub loop-pair-init : goal.loop-pair-init
loop-pair-init c = held_none c.args.part.stays.now c.args.part.question.separation c.args.table.now c.args.out.now

pub overflow_add-place : goal.overflow_add-place
overflow_add-place c = let r = room c in omega arith

pub offset_bounds-out-place : goal.offset_bounds-out-place
offset_bounds-out-place c = let r = room c in omega arith

pub slice_bounds-copy-end : goal.slice_bounds-copy-end
slice_bounds-copy-end c = let r = room c in omega arith

pub loop-pair-preserved : goal.loop-pair-preserved
loop-pair-preserved c =
    elim c.if-stay-ne0.branch [
      | then-stay-ne0 w ↦
          let wide = c.args.part.question.separation + 1 in
          let r = held_room c.loop-pair.invariant c.loop-pair-test.true w.if-stay-ne0.true c.requires.1 in
          let n : length (take (c.loop-pair.place + wide - c.loop-pair.place) (drop c.loop-pair.place c.loop-pair.out)) ≡ wide =
          omega (arith, length-take (c.loop-pair.place + wide - c.loop-pair.place) (drop c.loop-pair.place c.loop-pair.out), length-drop c.loop-pair.place c.loop-pair.out) in
          rw (w.out-is, w.place-is) (held_stays c.loop-pair.invariant c.loop-pair-test.true w.if-stay-ne0.true c.requires.1 _ (rw n at w.copy.ensures))
      | else-stay-ne0 w ↦ rw (w.out-is, w.place-is) (held_dropped c.loop-pair.invariant w.if-stay-ne0.false)
    ]
