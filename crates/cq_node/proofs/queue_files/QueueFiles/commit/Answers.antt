use Rattle.std.proofs.Common.{length, ◌∙◌, sym}
use Rattle.cq_small.specs.Store.{small_name, end_of}
use Rattle.cq_index.specs.Places.{index_name}
use Rattle.cq_node.proofs.Agreeing.{come_joined}
use Rattle.cq_node.proofs.Few.{more_few, same_few}
use Rattle.cq_node.proofs.Files.{apart, small_as, index_at, alone_as}
use Rattle.cq_node.proofs.queue_files.QueueFiles.commit.Goals as goal

pub add_entries-requires-clause-file : goal.add_entries-requires-clause-file
add_entries-requires-clause-file g c =
    let s = c.args.self.now in
    index_at _ s.index _ _ (λ told. c.add_records.ensures.others told (index_name 0 0) (apart 0 0)) (s.index_filed c.requires.open)

pub invariant_of-self-2 : goal.invariant_of-self-2
invariant_of-self-2 g c =
    let files = g.D.Disk.files in
    record {
      small_filed = λ _. small_as _ _ _ _ (λ told. c.add_entries.ensures.others told (small_name 0 0) (λ same. apart 0 0 (sym same))) c.in_ok-add_records.ensures.file;
      index_filed = λ _. c.in_ok-add_entries.ensures.file;
      alone = λ told. alone_as (files c.args.self.now.disk) (files c.add_entries.new.disk) (λ n not_small not_index. c.add_entries.ensures.others told n not_index ∙ c.add_records.ensures.others told n not_small) (c.args.self.now.alone told);
    }

pub returns-in_err-add_records-clause-steady : goal.returns-in_err-add_records-clause-steady
returns-in_err-add_records-clause-steady g c = λ told past lines ms legal stands will steady. c.add_records.ensures.steady told past lines stands steady

pub returns-in_err-add_entries-clause-steady : goal.returns-in_err-add_entries-clause-steady
returns-in_err-add_entries-clause-steady g c = λ told past lines ms legal stands will steady.
    let files = g.D.Disk.files in
    c.add_entries.ensures.steady told past lines ms legal (c.in_ok-add_records.ensures.stands told past lines stands)
    (come_joined (files c.args.self.now.disk) (files c.add_records.new.disk) (end_of c.args.self.now.small) c.args.records.now past lines c.args.entries.now ms (c.in_ok-add_records.ensures.added told) (c.add_records.ensures.others told) will)
    (c.add_records.ensures.steady told past lines stands steady)

pub returns-clause-steady : goal.returns-clause-steady
returns-clause-steady g c = λ told past lines ms legal stands will steady.
    let files = g.D.Disk.files in
    c.add_entries.ensures.steady told past lines ms legal (c.in_ok-add_records.ensures.stands told past lines stands)
    (come_joined (files c.args.self.now.disk) (files c.add_records.new.disk) (end_of c.args.self.now.small) c.args.records.now past lines c.args.entries.now ms (c.in_ok-add_records.ensures.added told) (c.add_records.ensures.others told) will)
    (c.add_records.ensures.steady told past lines stands steady)

pub returns-clause-stands : goal.returns-clause-stands
returns-clause-stands g c = λ told past lines ms legal will stands.
    let files = g.D.Disk.files in
    c.in_ok-add_entries.ensures.stands told past lines ms legal
    (come_joined (files c.args.self.now.disk) (files c.add_records.new.disk) (end_of c.args.self.now.small) c.args.records.now past lines c.args.entries.now ms (c.in_ok-add_records.ensures.added told) (c.add_records.ensures.others told) will)
    (c.in_ok-add_records.ensures.stands told past lines stands)

pub returns-in_err-add_records-clause-more : goal.returns-in_err-add_records-clause-more
returns-in_err-add_records-clause-more g c = λ told n few.
    let files = g.D.Disk.files in
    more_few (files c.add_records.new.disk (index_name 0 0)) n (length c.args.entries.now) (same_few (files c.args.self.now.disk (index_name 0 0)) (files c.add_records.new.disk (index_name 0 0)) n (c.add_records.ensures.others told (index_name 0 0) (apart 0 0)) few)

pub returns-in_err-add_entries-clause-more : goal.returns-in_err-add_entries-clause-more
returns-in_err-add_entries-clause-more g c = λ told n few.
    let files = g.D.Disk.files in
    c.add_entries.ensures.more told n (same_few (files c.args.self.now.disk (index_name 0 0)) (files c.add_records.new.disk (index_name 0 0)) n (c.add_records.ensures.others told (index_name 0 0) (apart 0 0)) few)

pub returns-clause-more : goal.returns-clause-more
returns-clause-more g c = λ told n few.
    let files = g.D.Disk.files in
    c.add_entries.ensures.more told n (same_few (files c.args.self.now.disk (index_name 0 0)) (files c.add_records.new.disk (index_name 0 0)) n (c.add_records.ensures.others told (index_name 0 0) (apart 0 0)) few)
