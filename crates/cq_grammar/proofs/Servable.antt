-- Each request and each step that is read can be served.
use Rattle.std.proofs.Common.{◌≡◌, ℕ, zero, suc, ◌+◌, ◌^◌, ◌<◌, ◌≤◌, Bool, true, false, not, cond, List, [], ◌∷◌, ◌++◌, refl, ap, ◌∙◌, subst, length, length-append, replicate, arith, Option, None, Some, Result, Ok, Err}
use Rattle.std.specs.Prelude.{◌==◌, ◌&&◌, nat_le, nat_lt, codes, ok_or}
use Rattle.std.specs.List.{AllByRecursion, slice_split}
use Rattle.std.specs.Str.{bytes_eq}
use Rattle.std.specs.Str.Parse.{digits_value}
use Rattle.std.proofs.lemmas.Bool.{and_parts, ltb-true}
use Rattle.std.proofs.lemmas.List.Splits.{length-slice_split}
use Rattle.cq_bytes.specs.Numbers.{contains, AreQueues}
use Rattle.cq_bytes.proofs.Listed.{queues_push}
use Rattle.cq_grammar.specs.declared.script.StepWord.{StepWord}
use Rattle.cq_grammar.specs.declared.script.StepWord.TheVariants as step
use Rattle.cq_grammar.specs.declared.script.Halt.{Halt}
use Rattle.cq_grammar.specs.declared.script.Halt.TheVariants as halt
use Rattle.cq_grammar.specs.declared.script.Why.{Why}
use Rattle.cq_grammar.specs.declared.script.Why.TheVariants as why
use Rattle.cq_grammar.specs.declared.steps.Run.{Run}
use Rattle.cq_grammar.specs.Words.{is_decimal, number_of, halves, ◌>>=◌, map_ok, each}
use Rattle.cq_grammar.specs.Steps.{number_in, client_within, client_of, letter_of, halt_of, step_within, plain_step_of, times_of, run, once, repeated_by, stop_by, crash_by, run_of, steps_of, with_run, with_runs, too_many, IsHalt, IsStep}
use Rattle.cq_grammar.specs.Requests.{number_on, numbers_of, queue_within, with_queue, with_queues, queues_of, bytes_of, short_enough, body_of}
use Rattle.cq_grammar.proofs.Ranges.{then-some, chosen, same-ok}

-- ---- results that gave a value

pub yes : {A E : Type 0} (b : Bool) (x : A) (e : E) (y : A) → cond b (Ok x) (Err e) ≡ Ok y → (b ≡ true) × (x ≡ y)
yes true x e y h = (refl, cc)
yes false x e y h = cc

then-mapped : {A B E : Type 0} (r : Result A E) (f : A → B) (y : B) (P : Type 0) → map_ok f r ≡ Ok y → ((x : A) → r ≡ Ok x → f x ≡ y → P) → P
then-mapped (Ok x) f y P h k = k x refl cc
then-mapped (Err e) f y P h k = cc

length-each : {A B E : Type 0} (f : A → Result B E) (xs : List A) (ys : List B) → each f xs ≡ Ok ys → length ys ≡ length xs
length-each f [] ys h = ap length (same-ok _ ys [] h refl)
length-each f (x ∷ xs) ys h =
    then-some (f x) (λ y. (each f xs >>= λ zs. Ok (y ∷ zs))) ys _ h (λ y e k. then-some (each f xs) (λ zs. Ok (y ∷ zs)) ys _ k (λ zs g j.
    let one_more = length-each f xs zs g in
    let same : length ys ≡ length (y ∷ zs) = ap length (same-ok _ ys (y ∷ zs) j refl) in
    omega (arith, one_more, same)))

all-each : {A B E : Type 0} (P : B → Type 0) (f : A → Result B E) → ((x : A) (y : B) → f x ≡ Ok y → P y) → (xs : List A) (ys : List B) → each f xs ≡ Ok ys → AllByRecursion P ys
all-each P f is [] ys h = subst (AllByRecursion P) (same-ok _ [] ys refl h) tt
all-each P f is (x ∷ xs) ys h =
    then-some (f x) (λ y. (each f xs >>= λ zs. Ok (y ∷ zs))) ys _ h (λ y e k. then-some (each f xs) (λ zs. Ok (y ∷ zs)) ys _ k (λ zs g j.
    subst (AllByRecursion P) (same-ok _ (y ∷ zs) ys refl j) (is x y e, all-each P f is xs zs g)))

pub all-append : {A : Type 0} (P : A → Type 0) (xs ys : List A) → AllByRecursion P xs → AllByRecursion P ys → AllByRecursion P (xs ++ ys)
all-append P [] ys a b = b
all-append P (x ∷ xs) ys a b = (a.0, all-append P xs ys a.1 b)

pub all-replicate : {A : Type 0} (P : A → Type 0) (n : ℕ) (x : A) → P x → AllByRecursion P (replicate n x)
all-replicate P zero x p = tt
all-replicate P (suc n) x p = (p, all-replicate P n x p)

-- ---- queues

pub queue-small : (count n q : ℕ) → count ≤ 256 → queue_within count n ≡ Ok q → q < 256
queue-small count n q few h =
    let p = yes (nat_lt n count) n why.Queue q h in
    let small : n < count = ltb-true n count p.0 in
    subst (λ k. k < 256) p.1 (omega (arith, small, few))

not-true : (b : Bool) → not b ≡ true → b ≡ false
not-true true h = cc
not-true false h = refl

queue-joins : (count : ℕ) (qs new : List ℕ) (n : ℕ) → AreQueues qs → with_queue count qs n ≡ Ok new → AreQueues new × (length new ≡ length qs + 1)
queue-joins count qs new n a h =
    then-some (queue_within count n) (λ q. cond (nat_lt q 256 && not (contains qs q)) (Ok (qs ++ q ∷ [])) (Err why.Queue)) new _ h (λ q e k.
    let p = yes (nat_lt q 256 && not (contains qs q)) (qs ++ q ∷ []) why.Queue new k in
    let parts = and_parts (nat_lt q 256) (not (contains qs q)) p.0 in
    subst (λ (l : List ℕ). AreQueues l × (length l ≡ length qs + 1)) p.1 (queues_push qs q a (ltb-true q 256 parts.0) (not-true (contains qs q) parts.1), omega (arith, length-append qs (q ∷ []))))

queues-join : (count : ℕ) (qs new ns : List ℕ) → AreQueues qs → with_queues count qs ns ≡ Ok new → AreQueues new × (length new ≡ length qs + length ns)
queues-join count qs new [] a h = subst (λ (l : List ℕ). AreQueues l × (length l ≡ length qs + 0)) (same-ok _ qs new refl h) (a, omega arith)
queues-join count qs new (n ∷ ns) a h =
    then-some (with_queue count qs n) (λ more. with_queues count more ns) new _ h (λ more e k.
    let one = queue-joins count qs more n a e in
    let rest = queues-join count more new ns one.0 k in
    let longer : length new ≡ length qs + length (n ∷ ns) = omega (arith, rest.1, one.1) in
    (rest.0, longer))

-- the queues that a word names are some, and different
pub queues-are : (count : ℕ) (w new : List ℕ) → queues_of count w ≡ Ok new → (0 < length new) × AreQueues new
queues-are count w new h =
    then-some (numbers_of w) (with_queues count []) new _ h (λ ns e k.
    let pieces = slice_split (λ b. b == 44) w in
    let many = queues-join count [] new ns tt k in
    let some : 0 < length new = omega (arith, many.1, length-each number_on pieces ns e, length-slice_split (λ b. b == 44) w) in
    (some, many.0))

-- ---- bodies

pub body-short : (threshold : ℕ) (ws : List (List ℕ)) (body : List ℕ) → body_of threshold ws ≡ Ok body → length body < threshold
body-short threshold ws body h = short (bytes_of ws) h
  where
    short : (o : Option (List ℕ)) → short_enough threshold o ≡ Ok body → length body < threshold
    short None h = cc
    short (Some bytes) h =
        let p = yes (nat_le (length bytes) 1048576 && nat_lt (length bytes) threshold) bytes why.Body body h in
        let parts = and_parts (nat_le (length bytes) 1048576) (nat_lt (length bytes) threshold) p.0 in
        subst (λ (l : List ℕ). length l < threshold) p.1 (ltb-true (length bytes) threshold parts.1)

-- ---- steps

pub some-of : {A : Type 0} (b : Bool) (x y : A) → cond b (Some x) None ≡ Some y → (b ≡ true) × (x ≡ y)
some-of true x y h = (refl, cc)
some-of false x y h = cc

number-small : (w : List ℕ) (n : ℕ) → number_of w ≡ Some n → n < 2 ^ 64
number-small w n h =
    let v = digits_value 10 w in
    let p = some-of (is_decimal w && nat_lt v (2 ^ 64)) v n h in
    let small : v < 2 ^ 64 = ltb-true v (2 ^ 64) (and_parts (is_decimal w) (nat_lt v (2 ^ 64)) p.0).1 in
    subst (λ m. m < 2 ^ 64) p.1 small

in-small : (w : List ℕ) (n : ℕ) → number_in w ≡ Ok n → n < 2 ^ 64
in-small w n h = given (number_of w) refl h
  where
    given : (o : Option ℕ) → number_of w ≡ o → ok_or o why.Step ≡ Ok n → n < 2 ^ 64
    given (Some m) e h = subst (λ k. k < 2 ^ 64) (same-ok _ m n refl h) (number-small w m e)
    given None e h = cc

client-is : (clients : ℕ) (w : List ℕ) (c : ℕ) → client_of clients w ≡ Ok c → c < clients
client-is clients w c h =
    then-some (number_in w) (client_within clients) c _ h (λ n e k.
    let p = yes (nat_lt n clients) n why.Client c k in
    subst (λ m. m < clients) p.1 (ltb-true n clients p.0))

letter-is : (clients : ℕ) (w : List ℕ) (t : Halt) → letter_of w ≡ Ok t → IsHalt clients t
letter-is clients w t h =
    chosen (bytes_eq w (codes "w")) _ _ t _ h (λ k. subst (IsHalt clients) (same-ok _ halt.Write t refl k) tt)
    (λ k. chosen (bytes_eq w (codes "m")) _ _ t _ k (λ j. subst (IsHalt clients) (same-ok _ halt.Shift t refl j) tt) (λ j. cc))

halt-is : (clients : ℕ) (w : List ℕ) (t : Halt) → halt_of clients w ≡ Ok t → IsHalt clients t
halt-is clients [] t h = cc
halt-is clients (b ∷ w) t h =
    chosen (b == 116) (map_ok halt.Turn (client_of clients w)) (letter_of (b ∷ w)) t _ h
    (λ k. then-mapped (client_of clients w) halt.Turn t _ k (λ c e j. subst (IsHalt clients) j (client-is clients w c e)))
    (letter-is clients (b ∷ w) t)

step-within : (clients : ℕ) (t : Halt) → IsHalt clients t → IsStep clients (step_within t)
step-within clients (halt.Turn c) a = a
step-within clients halt.Write a = tt
step-within clients halt.Shift a = tt

plain-is : (clients : ℕ) (w : List ℕ) (s : StepWord) → plain_step_of clients w ≡ Ok s → IsStep clients s
plain-is clients [] s h = cc
plain-is clients (b ∷ w) s h =
    chosen (b == 99) (map_ok step.Client (client_of clients w)) (map_ok step_within (halt_of clients (b ∷ w))) s _ h
    (λ k. then-mapped (client_of clients w) step.Client s _ k (λ c e j. subst (IsStep clients) j (client-is clients w c e)))
    (λ k. then-mapped (halt_of clients (b ∷ w)) step_within s _ k (λ t e j. subst (IsStep clients) j (step-within clients t (halt-is clients (b ∷ w) t e))))

stop-is : (clients image : ℕ) (o : Option (List ℕ × List ℕ)) (s : StepWord) → image < 2 ^ 64 → stop_by clients image o ≡ Ok s → IsStep clients s
stop-is clients image None s small h = cc
stop-is clients image (Some (calls, w)) s small h =
    then-some (number_in calls) (λ n. (halt_of clients w >>= λ t. Ok (step.Stop image n t))) s _ h (λ n e k. then-some (halt_of clients w) (λ t. Ok (step.Stop image n t)) s _ k (λ t g j.
    subst (IsStep clients) (same-ok _ (step.Stop image n t) s refl j) (small, in-small calls n e, halt-is clients w t g)))

crash-is : (clients : ℕ) (w : List ℕ) (o : Option (List ℕ × List ℕ)) (s : StepWord) → crash_by clients w o ≡ Ok s → IsStep clients s
crash-is clients w None s h = then-mapped (number_in w) step.Crash s _ h (λ n e j. subst (IsStep clients) j (in-small w n e))
crash-is clients w (Some (image, rest)) s h = then-some (number_in image) (λ n. stop_by clients n (halves 58 rest)) s _ h (λ n e k. stop-is clients n (halves 58 rest) s (in-small image n e) k)

repeated-is : (clients : ℕ) (w : List ℕ) (o : Option (List ℕ × List ℕ)) (r : Run) → repeated_by clients w o ≡ Ok r → IsStep clients r.step
repeated-is clients w None r h = then-mapped (plain_step_of clients w) once r _ h (λ s e j. subst (λ (q : Run). IsStep clients q.step) j (plain-is clients w s e))
repeated-is clients w (Some (name, times)) r h =
    then-some (times_of times) (λ n. (plain_step_of clients name >>= λ s. Ok (run s n))) r _ h (λ n e k. then-some (plain_step_of clients name) (λ s. Ok (run s n)) r _ k (λ s g j.
    subst (λ (q : Run). IsStep clients q.step) (same-ok _ (run s n) r refl j) (plain-is clients name s g)))

run-is : (clients : ℕ) (w : List ℕ) (r : Run) → run_of clients w ≡ Ok r → IsStep clients r.step
run-is clients [] r h = cc
run-is clients (b ∷ w) r h =
    chosen (b == 33) (map_ok once (crash_by clients w (halves 47 w))) (repeated_by clients (b ∷ w) (halves 42 (b ∷ w))) r _ h
    (λ k. then-mapped (crash_by clients w (halves 47 w)) once r _ k (λ s e j. subst (λ (q : Run). IsStep clients q.step) j (crash-is clients w (halves 47 w) s e)))
    (repeated-is clients (b ∷ w) (halves 42 (b ∷ w)) r)

-- the words of a schedule name steps
pub runs-are : (clients : ℕ) (ws : List (List ℕ)) (runs : List Run) → each (run_of clients) ws ≡ Ok runs → AllByRecursion (λ (r : Run). IsStep clients r.step) runs
runs-are clients ws runs h = all-each (λ (r : Run). IsStep clients r.step) (run_of clients) (run-is clients) ws runs h

more-steps : (clients : ℕ) (steps new : List StepWord) (r : Run) → AllByRecursion (IsStep clients) steps → IsStep clients r.step → with_run steps r ≡ Ok new → AllByRecursion (IsStep clients) new
more-steps clients steps new r a p h =
    chosen (too_many (steps ++ steps_of r)) (Err why.Many) (Ok (steps ++ steps_of r)) new _ h (λ k. cc)
    (λ k. subst (AllByRecursion (IsStep clients)) (same-ok _ (steps ++ steps_of r) new refl k) (all-append (IsStep clients) steps (steps_of r) a (all-replicate (IsStep clients) r.times r.step p)))

-- so each step of the schedule names one of the clients
pub steps-are : (clients : ℕ) (steps new : List StepWord) (runs : List Run) → AllByRecursion (IsStep clients) steps → AllByRecursion (λ (r : Run). IsStep clients r.step) runs → with_runs steps runs ≡ Ok new → AllByRecursion (IsStep clients) new
steps-are clients steps new [] a p h = subst (AllByRecursion (IsStep clients)) (same-ok _ steps new refl h) a
steps-are clients steps new (r ∷ runs) a p h = then-some (with_run steps r) (λ more. with_runs more runs) new _ h (λ more e k. steps-are clients more new runs (more-steps clients steps more r a p.0 e) p.1 k)
