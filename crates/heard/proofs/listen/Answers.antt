-- Each turn reads behind the bytes carried and goes on with the run.
use Rattle.cond.proofs.Kit.{◌+◌, ◌-◌, ◌≡◌, arith, refl, rules}
use Rattle.serial.proofs.Lengths.{length_most, some_serial}
use Rattle.report.proofs.Answered.{carried_short}
use Rattle.heard.proofs.Counts.{few_telegrams, going_more, going_none, going_still, listened, on_err, some_taken, taken_more}
use Rattle.heard.proofs.listen.Goals as goal
use Rattle.heard.proofs.listen.Goals.{else-loop-left-test, then-loop-left-test+in_ok-got+then-got-eq0}

pub loop-left-init : goal.loop-left-init
loop-left-init g c =
    record { short = c.requires; room = search rules; out_room = search rules; few = omega arith; going = going_none _ _ }

pub slice_bounds-read_some-count : goal.slice_bounds-read_some-count
slice_bounds-read_some-count g c = omega (arith, length_most c.args.form)

pub slice_bounds-buffer-start : goal.slice_bounds-buffer-start
slice_bounds-buffer-start g c = omega (arith, length_most c.args.form)

pub overflow_add-telegrams : goal.overflow_add-telegrams
overflow_add-telegrams g c =
    let q = c.loop-left in
    let h = c.in_ok-p.ensures.reported.1 in
    let few = few_telegrams q.buffer c.read_some.new.part q.invariant.short q.invariant.room c.read_some.auto.part c.in_ok-got.ensures.inside h in
    omega (arith, few, c.in_ok-got.ensures.inside)

pub loop-left-preserved : goal.loop-left-preserved
loop-left-preserved g c =
    let q = c.loop-left in
    let h = c.in_ok-p.ensures.reported.1 in
    let few = few_telegrams q.buffer c.read_some.new.part q.invariant.short q.invariant.room c.read_some.auto.part c.in_ok-got.ensures.inside h in
    let more = going_more q.buffer c.read_some.new.part q.invariant.short q.invariant.room c.read_some.auto.part c.in_ok-got.ensures.inside h
    q.invariant.going c.in_ok-got.ensures.bytes.0 c.in_ok-p.ensures.told in
    let bytes : 18446744073709551615 - q.left + c.in_ok-got.got ≡ 18446744073709551615 - (q.left - c.in_ok-got.got) =
    omega (arith, c.in_ok-got.ensures.inside) in
    record { short = carried_short h refl; room = search rules; out_room = search rules; few = omega (arith, few); going = rw bytes at more }

pub returns-clause-listened : goal.returns-clause-listened
returns-clause-listened g c =
    let known = some_serial c.args.form (λ e. omega arith) in
    elim c.loop-left-test.branch [
      | else-loop-left-test w ↦ rw w.reader-is (listened known c.loop-left.invariant.going)
      | then-loop-left-test+in_ok-got+then-got-eq0 w ↦
          rw w.reader-is (listened known (going_still w.read_some.new.part c.loop-left.invariant.going w.in_ok-got.ensures.bytes.0 w.if-got-eq0.true))
    ]

pub returns-clause-end : goal.returns-clause-end
returns-clause-end g c =
    elim c.loop-left-test.branch [
      | else-loop-left-test w ↦ λ few. absurd (omega (arith, w.loop-left-test.false))
      | then-loop-left-test+in_ok-got+then-got-eq0 w ↦ λ few.
          rw w.reader-is (w.in_ok-got.ensures.bytes.1 w.if-got-eq0.true (omega (arith, w.read_some.auto.part, length_most c.args.form)))
    ]

pub returns-in_err-p-clause-err : goal.returns-in_err-p-clause-err
returns-in_err-p-clause-err g c = on_err _ (taken_more _ c.loop-left.invariant.going.taken (some_taken _ c.in_ok-got.ensures.bytes.0))
