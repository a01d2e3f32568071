use Rattle.cq_folder.proofs.Kept.{keeps_steady}
use Rattle.cq_folder.proofs.KeptHeld.{keeps_held_on}
use Rattle.cq_folder.proofs.steady_laws.Goals as goal

pub returns : goal.returns
returns g c = record {
  steady = λ told. let d = g.D.Disk in keeps_steady d.moment d.left d.files (g.met.D.Disk.now_only told) (g.met.D.Disk.now_each told) (g.met.D.Disk.reads_left told);
  held = λ told. let d = g.D.Disk in keeps_held_on d.moment d.left d.files (g.met.D.Disk.now_only told);
}
