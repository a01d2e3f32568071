use Rattle.std.proofs.Common.{rules, ◌≡◌, List, length, sym, ◌∙◌, ap, subst}
use Rattle.std.specs.Prelude.{filter}
use Rattle.cq_disk.specs.declared.name.Name.{Name}
use Rattle.cq_back_q.specs.Folder.{is_of}
use Rattle.cq_back_q.specs.Names.{AreNamesOf}
use Rattle.cq_back_q.proofs.Queues.{names_are, none_of}
use Rattle.cq_back_q.proofs.each.open_listed.Goals as goal

pub returns-then-is_empty-clause-read : goal.returns-then-is_empty-clause-read
returns-then-is_empty-clause-read g c = λ told.
    let files = g.D.Disk.files c.args.disk.now in
    let none : length c.in_ok-own.own.items ≡ 0 = search rules in
    none_of c.args.queue files c.args.names.now (c.requires.names told) (ap length (sym c.in_ok-own.ensures) ∙ none)

pub open_queue-requires : goal.open_queue-requires
open_queue-requires g c = record {
  names = λ told.
      let files = g.D.Disk.files c.args.disk.now in
      subst (λ (ns : List Name). AreNamesOf c.args.queue files ns) (sym c.in_ok-own.ensures ∙ sym c.deref.ensures.value)
      (names_are c.args.queue files c.args.names.now (c.requires.names told) (c.requires.settled told));
}
