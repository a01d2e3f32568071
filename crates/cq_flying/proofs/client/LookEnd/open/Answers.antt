use Rattle.std.proofs.Common.{arith, refl, sym, ap, ◌∙◌, ◌≡◌, ℕ, ◌+◌, ◌*◌, ◌/◌, ◌<◌, subst, List, length, set, get_or}
use Rattle.cq_inbox.specs.Flags.{Joins}
use Rattle.std.specs.List.{AllWithin}
use Rattle.cq_flying.specs.Ends.{opened, names}
use Rattle.cq_flying.proofs.Steps.{names_allowed}
use Rattle.cq_flying.proofs.Opened.{all_open, fresh_name, once_set, name_joins}
use Rattle.cq_flying.proofs.client.LookEnd.open.Goals as goal

pub unreachable-requires : goal.unreachable-requires
unreachable-requires c =
    let me = c.args.self.now in
    let room = c.requires.free.room in
    let all = all_open (names me) (subst (λ (n : ℕ). AllWithin (λ (x : ℕ). 0 < x) (names me) 0 n) (sym me.long) c.in_default.ensures) in
    let long = me.long in
    omega arith

pub store-requires : goal.store-requires
store-requires c =
    let me = c.args.self.now in
    let i : ℕ = c.in-Some.word in
    let near : i < 64 = c.in-Some.ensures.0 in
    (c.requires.words, subst (λ (z : ℕ). i < z) (sym c.args.words.now.sized) near, names_allowed _ _ _ _ (c.args.delivery + 1) _ near refl (omega arith) (λ _. fresh_name (names me) c.args.delivery c.requires.free.fresh) me.role)

pub invariant_of-self-clause-once : goal.invariant_of-self-clause-once
invariant_of-self-clause-once c =
    let me = c.args.self.now in
    let i : ℕ = c.in-Some.word in
    let d : ℕ = c.args.delivery in
    let near : i < length me.names = subst (λ (n : ℕ). i < n) (sym me.long ∙ ap (λ (l : List ℕ). length l) me.kept) c.in-Some.ensures.0 in
    once_set me.names i (d + 1) near me.once (λ _ j e. fresh_name (names me) d c.requires.free.fresh j (ap (λ (l : List ℕ). get_or l j 0) me.kept ∙ e))

pub returns-clause-opened : goal.returns-clause-opened
returns-clause-opened c =
    let me = c.args.self.now in
    let i : ℕ = c.in-Some.word in
    let d : ℕ = c.args.delivery in
    let half : 2 * (d + 1) / 2 ≡ d + 1 = omega arith in
    let new : c.store.new.seat.me.0.names ≡ set (names me) i (d + 1) = ap (λ m. m.0.names) c.store.ensures.2 ∙ ap (set (names me) i) half in
    let near : i < length (names me) = subst (λ (n : ℕ). i < n) (sym me.long) c.in-Some.ensures.0 in
    subst (λ (l : List ℕ). Joins d (opened (names me)) (opened l)) (sym new) (name_joins (names me) i d near (c.in-Some.ensures.1 0))
