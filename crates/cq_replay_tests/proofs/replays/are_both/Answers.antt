use Rattle.std.proofs.Common.{◌≡◌, ◌≢◌, ◌⊎◌, inl, inr, ⊎_elim, ℕ, zero, suc, ◌<◌, List, [], ◌∷◌, length, get_or, Option, Some, None, refl, sym, ◌∙◌, arith}
use Rattle.cq_disk.specs.declared.name.Name.{Name}
use Rattle.cq_disk.specs.File.{File}
use Rattle.cq_disk.specs.Files.{HasFile, NamesAre}
use Rattle.cq_replay_tests.proofs.replays.are_both.Goals as goal

one_of : (x y n : Name) (k : ℕ) → k < 2 → get_or (x ∷ y ∷ []) k n ≡ n → (n ≡ x) ⊎ (n ≡ y)
one_of x y n zero lt is = inl (sym is)
one_of x y n (suc zero) lt is = inr (sym is)
one_of x y n (suc (suc k)) lt is = absurd (omega (arith, lt))

no_file : (file : Option File) → (HasFile file → ⊥) → file ≡ None
no_file None none = refl
no_file (Some f) none = absurd (none tt)

no_other : (files : Name → Option File) (names : List Name) (a b d : Name) → length names ≡ 2 → get_or names 0 d ≡ a → get_or names 1 d ≡ b → NamesAre files names → (n : Name) → n ≢ b → n ≢ a → files n ≡ None
no_other files [] a b d two first second are n small index = absurd (omega (arith, two))
no_other files (x ∷ []) a b d two first second are n small index = absurd (omega (arith, two))
no_other files (x ∷ y ∷ z ∷ names) a b d two first second are n small index = absurd (omega (arith, two))
no_other files (x ∷ y ∷ []) a b d two first second are n small index = no_file (files n) (λ has.
    let place = (are.each n).1 has in
    ⊎_elim (λ is. index (is ∙ first)) (λ is. small (is ∙ second)) (one_of x y n place.0 place.1 place.2))

pub returns-then-is_file : goal.returns-then-is_file
returns-then-is_file c = λ files both are. no_other files c.args.names.now _ _ _ c.if-names-ne2.false (c.is_file.ensures c.if-is_file.true) (c.is_file-then-is_file.ensures both) are
