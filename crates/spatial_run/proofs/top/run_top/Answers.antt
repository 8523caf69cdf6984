use Rattle.std.proofs.Common.{ap, sym, subst, map, Option, List, ℕ}
use Rattle.dev_model.specs.Story.{DeviceState}
use Rattle.spatial_run.specs.Tasks.{Task, task_of}
use Rattle.spatial_run.specs.ByEvents.{FormattingBy, RanByEvents}
use Rattle.spatial_run.specs.Endings.{Ends, edges_of}
use Rattle.spatial_run.specs.Parts.{Cause}
use Rattle.spatial_run.specs.Views.{record_of}
use Rattle.spatial_run.specs.EndingViews.{ending_of}
use Rattle.spatial_run.proofs.Ends.{ended, plain-end}
use Rattle.spatial_run.proofs.top.run_top.Goals as goal

pub returns : goal.returns
returns g c = record { headline = plain-end (task_of (map (λ w. w.now) c.args.words.now)) (edges_of g.R.Source.fault_count g.R.Source.left g.K.Sink.fault_count g.K.Sink.taken g.D.Device.seen c.args.script.now c.run_task-run.new.source c.args.out.now c.finish.new.out c.args.device c.finish.result.device) c.finish.result.status c.finish.result.acks.items (record_of c.finish.result.outcomes) exact; events = exact }
  where
    exact : Ends FormattingBy RanByEvents (task_of (map (λ w. w.now) c.args.words.now)) (edges_of g.R.Source.fault_count g.R.Source.left g.K.Sink.fault_count g.K.Sink.taken g.D.Device.seen c.args.script.now c.run_task-run.new.source c.args.out.now c.finish.new.out c.args.device c.finish.result.device) c.finish.result.status c.finish.result.acks.items (record_of c.finish.result.outcomes)
    exact =
        ended (task_of (map (λ w. w.now) c.args.words.now)) (edges_of g.R.Source.fault_count g.R.Source.left g.K.Sink.fault_count g.K.Sink.taken g.D.Device.seen c.args.script.now c.run_task-run.new.source c.args.out.now c.finish.new.out c.args.device c.finish.result.device) c.finish.result.status c.finish.result.acks.items (record_of c.finish.result.outcomes) (ending_of c.run_task-run.result.ending)
        (subst (λ (d : DeviceState). Cause (task_of (map (λ w. w.now) c.args.words.now)) (g.R.Source.fault_count c.args.script.now) (g.R.Source.fault_count c.run_task-run.new.source) (g.R.Source.left c.args.script.now) (g.D.Device.seen c.args.device) d c.finish.result.acks.items (ending_of c.run_task-run.result.ending)) (sym (ap (g.D.Device.seen) c.finish.ensures.device))
        (subst (λ (a : List ℕ). Cause (task_of (map (λ w. w.now) c.args.words.now)) (g.R.Source.fault_count c.args.script.now) (g.R.Source.fault_count c.run_task-run.new.source) (g.R.Source.left c.args.script.now) (g.D.Device.seen c.args.device) (g.D.Device.seen c.run_task-run.result.device) a (ending_of c.run_task-run.result.ending)) (sym (ap (λ l. l.items) c.finish.ensures.acks))
        (subst (λ (t : Option Task). Cause t (g.R.Source.fault_count c.args.script.now) (g.R.Source.fault_count c.run_task-run.new.source) (g.R.Source.left c.args.script.now) (g.D.Device.seen c.args.device) (g.D.Device.seen c.run_task-run.result.device) c.run_task-run.result.acks.items (ending_of c.run_task-run.result.ending)) c.task_of.ensures c.run_task-run.ensures.cause)))
        c.finish.ensures.finished
