use Rattle.std.proofs.Common.{rules, ◌≡◌, ◌≤◌, ◌<◌, true, false, length, get_or, refl, None}
use Rattle.std.proofs.lemmas.List.Elements.{at_read}
use Rattle.cq_notice.proofs.Places.{tells-past, tells-silent, tells-one}
use Rattle.cq_notice.proofs.notices.Boxes.tell.Goals as goal
use Rattle.cq_notice.proofs.notices.Boxes.tell.Goals.{then-at-len-via-then-at-len, then-at-len-via-else-at-len+then-self-at}

pub returns-then-at-len : goal.returns-then-at-len
returns-then-at-len g c =
    let boxes = c.args.self.now in
    elim c.then-at-len.branch [
      | then-at-len-via-then-at-len w ↦
          let far : length boxes.places.items ≤ c.args.client = search rules in
          tells-past g.B.Notice.told g.B.Notice.faults c.args.client c.args.session c.args.number boxes.places.items boxes.silent far
      | then-at-len-via-else-at-len+then-self-at w ↦
          let silent : get_or boxes.silent c.args.client false ≡ true = search rules in
          tells-silent g.B.Notice.told g.B.Notice.faults c.args.client c.args.session c.args.number boxes.places.items boxes.silent silent
    ]

pub returns : goal.returns
returns g c =
    let boxes = c.args.self.now in
    let os = boxes.places.items in
    let near : c.args.client < length os = search rules in
    let there : c.args.client < length boxes.silent = search rules in
    let loud : get_or boxes.silent c.args.client false ≡ false = search rules in
    let is : get_or os c.args.client None ≡ c.index_mut.result.now = at_read os (λ o. o ≡ c.index_mut.result.now) c.args.client c.index_mut.result.now near c.index_mut.ensures.value refl None in
    tells-one g.B.Notice.told g.B.Notice.faults c.args.client c.args.session c.args.number os boxes.silent c.index_mut.result.now c.tell_one.new.place c.tell_one.result there loud is c.tell_one.ensures
