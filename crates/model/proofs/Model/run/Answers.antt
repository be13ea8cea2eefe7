use mathlib.Core.Path.{sym, ap, ◌∙◌}
use Rattle.segment.specs.Refusals.{given}
use Rattle.model.specs.Step.{said_answer}
use Rattle.model.specs.Play.{Run}
use Rattle.model.proofs.Runs.{at, run_next, run_done, within_next}
use Rattle.model.proofs.Model.run.Goals as goal

pub loop-e-preserved : goal.loop-e-preserved
loop-e-preserved c =
    let l = c.loop-e in
    let t = c.tallied-totals in
    let es = c.args.events.now in (
      within_next l.totals t.result (said_answer c.step.result) l.e-index t.ensures l.invariant.0,
      sym (run_next es l.e-index l.self l.totals _ c.step.new.self c.step.result t.result c.step.ensures t.ensures c.loop-e-test.true) ∙ l.invariant.1,
    )

pub returns : goal.returns
returns c =
    let l = c.loop-e in
    let es = c.args.events.now in
    let e = sym l.invariant.1 ∙ run_done es l.e-index (at l.self l.totals) c.loop-e-test.false in
    record { report = ap (λ (p : Run). given p.totals) (sym e); model = ap (λ (p : Run). p.model) (sym e) }
