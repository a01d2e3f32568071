use Rattle.cq_realdisk.proofs.Others.{given_none, given_same}
use Rattle.cq_realdisk.proofs.folders.RealFoldersFolders.close_folder.Goals as goal

pub returns-clause-back : goal.returns-clause-back
returns-clause-back g c = record {
  stands = λ told. absurd told;
  back = rw c.forget.ensures (given_none c.take_over.new.self.paths.items c.args.path.now);
}

pub returns-clause-others : goal.returns-clause-others
returns-clause-others g c = record {
  stand = λ told. absurd told;
  can_open = λ told. absurd told;
  are_out = λ p other. rw (c.forget.ensures, c.take_over.ensures.paths) (given_same c.args.self.now.paths.items c.args.path.now p other);
}
