use Rattle.cq_folder.proofs.One.{sound_holds_once, agrees_is_sound, agrees_survives}
use Rattle.cq_folder.proofs.Kept.{keeps_standing, replaces_one}
use Rattle.cq_folder.proofs.KeptHeld.{keeps_held}
use Rattle.cq_folder.proofs.Members.{entries_are_held, held_have_entries}
use Rattle.cq_folder.proofs.Records.{held_have_records}
use Rattle.cq_folder.proofs.laws.Goals as goal

pub returns : goal.returns
returns c = record { sound_holds_once = sound_holds_once; entries_are_held = entries_are_held; held_have_entries = held_have_entries; held_have_records = held_have_records; agrees_is_sound = agrees_is_sound; agrees_survives = agrees_survives; keeps_standing = keeps_standing; keeps_held = keeps_held; replaces_one = replaces_one }
