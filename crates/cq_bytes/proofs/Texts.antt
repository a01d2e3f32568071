-- What a short text is made of.
use Rattle.std.proofs.Common.{◌≡◌, ℕ, ◌≤◌, true, List, length}
use Rattle.std.specs.Prelude.{◌&&◌, nat_le}
use Rattle.std.specs.List.{list_all}
use Rattle.std.proofs.lemmas.Bool.{leb-true, and_parts}
use Rattle.cq_bytes.specs.Texts.{is_text, is_visible}

pub text-parts : (t : List ℕ) → is_text t ≡ true → (1 ≤ length t) × (length t ≤ 64) × (list_all is_visible t ≡ true)
text-parts t h =
    let parts = and_parts (nat_le 1 (length t)) (nat_le (length t) 64 && list_all is_visible t) h in
    let more = and_parts (nat_le (length t) 64) (list_all is_visible t) parts.1 in
    (leb-true 1 (length t) parts.0, leb-true (length t) 64 more.0, more.1)
