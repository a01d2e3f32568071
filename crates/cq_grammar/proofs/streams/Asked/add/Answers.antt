use Rattle.std.proofs.Common.{◌≡◌, ◌+◌, ◌<◌, ◌≤◌, List, length, set, map, ◌++◌, ◌∷◌, [], sym, subst, arith, rules, Ok}
use Rattle.cq_inbox.specs.declared.request.Request.{Request}
use Rattle.cq_grammar.specs.Requests.{requests_of, whole_size, size_of, with_request}
use Rattle.cq_grammar.proofs.Sizes.{sized-same, sized-more, request-added}
use Rattle.cq_grammar.proofs.streams.Asked.add.Goals as goal

pub invariant_of-self : goal.invariant_of-self
invariant_of-self c =
    let vs = c.self.inside.streams.items in
    let near : c.args.client < length vs = search rules in
    let same : c.push.new.self.items ≡ c.in-Some.requests.now.items = search rules in
    sized-same vs c.args.client c.self.inside.size c.in-Some.requests.now c.push.new.self near c.in-Some.ensures.value same c.self.invariant

pub invariant_of-self-in-Some : goal.invariant_of-self-in-Some
invariant_of-self-in-Some c =
    let vs = c.self.inside.streams.items in
    let near : c.args.client < length vs = search rules in
    let grown : c.push.new.self.items ≡ c.in-Some.requests.now.items ++ c.args.request ∷ [] = search rules in
    let few : c.self.inside.size + c.size_of-size.result ≤ 268435456 = omega arith in
    sized-more vs c.args.client c.self.inside.size c.size_of-size.result c.in-Some.requests.now c.push.new.self c.args.request near c.in-Some.ensures.value grown c.size_of-size.ensures.same few c.self.invariant

pub returns-else-is_err : goal.returns-else-is_err
returns-else-is_err c =
    let vs = c.self.inside.streams.items in
    let now : List (List Request) = map (λ v. v.items) vs in
    let near : c.args.client < length vs = search rules in
    let grown : c.push.new.self.items ≡ c.in-Some.requests.now.items ++ c.args.request ∷ [] = search rules in
    let count : c.count.result ≡ length (requests_of now c.args.client) = subst (λ (l : List (List Request)). c.count.result ≡ length (requests_of l c.args.client)) (sym c.self.view_is) c.count.ensures in
    let few : length (requests_of now c.args.client) < 100000 = omega (arith, count) in
    let small : whole_size now + size_of c.args.request ≤ 268435456 = omega (arith, c.self.invariant.size_is, c.size_of-size.ensures.same) in
    subst (λ (l : List (List Request)). with_request l c.args.client c.args.request ≡ Ok (map (λ v. v.items) (set vs c.args.client c.push.new.self))) c.self.view_is
    (request-added vs c.args.client c.in-Some.requests.now c.push.new.self c.args.request near c.in-Some.ensures.value grown few small)
