use Rattle.std.proofs.Common.{◌≡◌, ◌+◌, get_or, sym, ◌∙◌, subst}
use Rattle.std.proofs.lemmas.Bool.{false≢true}
use Rattle.cq_disk.specs.declared.name.Name.{Name}
use Rattle.cq_disk.specs.declared.name.Kind.TheVariants.{Index}
use Rattle.cq_disk.specs.Run.{Ran, LeavesOnly}
use Rattle.cq_disk.specs.RunLemmas.{ran_next, ran_call}
use Rattle.cq_back_q.specs.Folder.{IsImageOrWithout, IsStray}
use Rattle.cq_back_q.proofs.Removing.{Removed, removal, removed_more, removed_skip, stray_is, stray_none}
use Rattle.cq_back_q.proofs.strays.remove_strays.Goals.{then-is_stray+in_ok-remove, else-is_stray}
use Rattle.cq_back_q.proofs.strays.remove_strays.Goals as goal

abbrev first : Name
first = record { kind = Index; queue = 0; number = 0 }

pub returns-in_err-remove-clause-any_moment : goal.returns-in_err-remove-clause-any_moment
returns-in_err-remove-clause-any_moment g c = λ told.
    let d = g.D.Disk in
    let l = c.loop-name in
    let names = c.args.names.now in
    let name = get_or names l.name-index first in
    let start = d.files c.args.disk.now in
    let are = c.requires told in
    let kind = c.is_stray.ensures.kind c.if-is_stray.true in
    let stray : IsStray start name = stray_is start names are name kind ((c.is_stray.ensures.alone are.order kind).0 c.if-is_stray.true) in
    removal d.moment d.left d.files (g.met.D.Disk.now_only told) told c.args.disk.now l.disk c.remove.new.self names l.name-index name c.remove.result (l.invariant.removed told) stray
    c.remove.ensures.ok c.remove.ensures.fault c.remove.ensures.time (l.invariant.run told)

pub loop-name-preserved : goal.loop-name-preserved
loop-name-preserved g c =
    let d = g.D.Disk in
    let l = c.loop-name in
    let names = c.args.names.now in
    let name = get_or names l.name-index first in
    let old = c.args.disk.now in
    let start = d.files old in
    elim c.if-is_stray.branch [
      | then-is_stray+in_ok-remove w ↦
          let new = w.remove.new.self in
          let same = sym w.disk-is in
          let kind = c.is_stray.ensures.kind w.if-is_stray.true in
          let stray : d.tells → IsStray start name = λ told. stray_is start names (c.requires told) name kind ((c.is_stray.ensures.alone (c.requires told).order kind).0 w.if-is_stray.true) in
          record {
            removed = λ told. subst (λ disk. Removed start (d.files disk) names (l.name-index + 1)) same
                (removed_more start names (c.requires told) (d.files l.disk) l.name-index first c.loop-name-test.true (l.invariant.removed told) (d.files new) (stray told) (w.in_ok-remove.ensures.ok told));
            run = λ told. subst (λ disk. LeavesOnly d old disk (IsImageOrWithout start)) same
                (removal d.moment d.left d.files (g.met.D.Disk.now_only told) told old l.disk new names l.name-index name w.remove.result (l.invariant.removed told) (stray told)
                w.remove.ensures.ok w.remove.ensures.fault w.remove.ensures.time (l.invariant.run told));
            ran = subst (λ disk. Ran d old disk ⊥) same
                (ran_next d old l.disk new _ _ ⊥ (λ none. absurd none) l.invariant.ran (ran_call d l.disk new w.remove.result _ w.remove.ensures.time w.remove.ensures.called));
          }
      | else-is_stray w ↦
          let same = sym w.disk-is in
          record {
            removed = λ told. subst (λ disk. Removed start (d.files disk) names (l.name-index + 1)) same
                (removed_skip start names (c.requires told) (d.files l.disk) l.name-index first c.loop-name-test.true (l.invariant.removed told)
                (λ stray. false≢true (sym w.if-is_stray.false ∙ (c.is_stray.ensures.alone (c.requires told).order stray.kind).1 (stray_none start names (c.requires told) name stray))));
            run = λ told. subst (λ disk. LeavesOnly d old disk (IsImageOrWithout start)) same (l.invariant.run told);
            ran = subst (λ disk. Ran d old disk ⊥) same l.invariant.ran;
          }
    ]
