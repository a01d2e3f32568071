use Rattle.std.proofs.Common.{◌≡◌, ◌∙◌, sym, ap, arith}
use Rattle.std.specs.Prelude.{is_some}
use Rattle.cq_items.specs.Items.{undecided_items}
use Rattle.cq_queue.specs.Values.{value_of}
use Rattle.cq_queues.specs.Values.{value_in, has_undecided, has_settling, has_finished}
use Rattle.cq_queues.proofs.Places.{at_place}
use Rattle.cq_queues.proofs.Marking.{first_some, note_all}
use Rattle.cq_queues.proofs.queues.note.Goals as goal

pub returns : goal.returns
returns c =
    let core = c.index-cores-queue.result in
    let at : value_of core ≡ value_in c.args.cores.now c.args.queue = ap value_of c.index-cores-queue.is ∙ sym (at_place c.args.cores.now c.args.queue core (omega (arith, c.requires.count, c.requires.queue))) in
    note_all (value_in c.args.cores.now) c.args.queue c.args.undecided.now c.args.settling.now c.args.finished.now _ _ _ (record {
      undecided_is = c.set.ensures.at ∙ c.is_some-some.ensures ∙ ap is_some c.undecided.ensures ∙ first_some (undecided_items core.items.items) ∙ ap has_undecided at;
      settling_is = c.set-2.ensures.at ∙ c.is_settling-gone.ensures ∙ ap has_settling at;
      finished_is = c.set-3.ensures.at ∙ c.has_finished-over.ensures ∙ ap has_finished at;
    }) c.set.ensures.others c.set-2.ensures.others c.set-3.ensures.others
