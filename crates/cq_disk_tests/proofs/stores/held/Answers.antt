use Rattle.std.proofs.Common.{◌≡◌, ℕ, List, Option, Some, None, refl, sym, ◌∙◌, subst, rules}
use Rattle.cq_disk.specs.declared.name.Name.{Name}
use Rattle.cq_disk.specs.File.{File, settled}
use Rattle.cq_disk.specs.Files.{IsThere}
use Rattle.cq_disk.specs.There.{there_found}
use Rattle.cq_gate.specs.declared.gate.Gate.{Gate}
use Rattle.cq_gate.specs.Gate.{IsGate, Shows}
use Rattle.cq_gate.specs.Opened.{IsThereGate}
use Rattle.cq_small.specs.Calls.{IsOpened}
use Rattle.cq_small.specs.Store.{IsSmallStore, name_of}
use Rattle.cq_small.specs.declared.store.SmallStore.{SmallStore}
use Rattle.cq_disk_tests.proofs.stores.held.Goals as goal

some_same : {a b : File} → Some a ≡ Some b → a ≡ b
some_same h = cc

opened_store : (store : SmallStore) (bytes : List ℕ) (slot : Option File) → slot ≡ Some (settled bytes) → IsThere slot (IsOpened store) → IsSmallStore store slot
opened_store store bytes slot loaded opened = record {
  absent = λ none. absurd (subst (λ (o : Option Gate). IsThereGate o (λ g. Shows g (settled bytes).reads)) none (opened.has (settled bytes) loaded).knows);
  there = λ gate is. record {
    is_some = opened.is_some;
    has = λ f here.
        let all : f ≡ settled f.reads = subst (λ (h : File). h ≡ settled h.reads) (some_same (sym loaded ∙ here)) refl in
        subst (λ (o : Option Gate). IsThereGate o (λ g. IsGate g f)) is ((opened.has f here).is all);
  };
}

held_store : {old new : Name → Option File} (store : SmallStore) (name : Name) (bytes : List ℕ) → ((n : Name) → new n ≡ old n) → old name ≡ Some (settled bytes) → name_of store ≡ name → IsThere (new name) (IsOpened store) → IsSmallStore store (new (name_of store))
held_store {old} {new} store name bytes same loaded named opened = subst (λ (n : Name). IsSmallStore store (new n)) (sym named) (opened_store store bytes (new name) (same name ∙ loaded) opened)

pub body-requires : goal.body-requires
body-requires g c =
    let e = c.in-Ok.ensures in
    (search rules, (search rules, (search rules, λ told. held_store c.in-Ok.store _ c.args.bytes.now (e.reads told).files c.in_ok-load.ensures.ok.this e.name (e.store told))))
