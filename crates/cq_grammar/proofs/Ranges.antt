-- The numbers that a script sets are in their ranges.
use Rattle.std.proofs.Common.{◌≡◌, ℕ, ◌+◌, ◌≤◌, Bool, true, false, not, cond, List, [], ◌∷◌, refl, ap, subst, length, take, arith, Option, None, Some, Result, Ok, Err}
use Rattle.std.specs.Prelude.{◌&&◌, ◌||◌, nat_le, nat_lt, codes, is_some}
use Rattle.std.specs.Option.{unwrap_or}
use Rattle.std.specs.List.{list_all}
use Rattle.std.specs.Str.{bytes_eq}
use Rattle.std.proofs.lemmas.Bool.{leb-true, and_parts}
use Rattle.cq_inbox.specs.Config.{IsInRange}
use Rattle.cq_inbox.specs.declared.request.Request.{Request}
use Rattle.cq_inbox.specs.declared.request.Request.TheVariants.{Publish, Get, Ack, End}
use Rattle.cq_grammar.specs.declared.script.Why.{Why}
use Rattle.cq_grammar.specs.declared.script.Why.TheVariants as why
use Rattle.cq_grammar.specs.declared.script.ScriptError.TheVariants as script_error
use Rattle.cq_grammar.specs.declared.settings.Settings.{Settings}
use Rattle.cq_grammar.specs.declared.reading.Reading.{Reading}
use Rattle.cq_grammar.specs.Words.{◌>>=◌, each, is_printable, is_spaced, words, script_lines, line_ends}
use Rattle.cq_grammar.specs.Steps.{client_within, run_of, with_runs}
use Rattle.cq_grammar.specs.Requests.{number_on, queue_within, queues_of, body_of, with_request}
use Rattle.cq_grammar.specs.Grammar.{clients_in, queues_in, segment_in, threshold_in, limit_in, has_begun, number_within, setting_of, take_clients, take_queues, take_segment, take_threshold, take_limit, setting_line, take_client, add, publish_by, get_by, ack_by, end_by, client_now, of_client, with_schedule, scheduled_by, take_schedule, take_line, set_or_take, take_words, is_passed_over, read_line, at_line, read_lines, nothing_read, script_of}

abbrev pub AreInRange : Settings → Type 0
AreInRange s = IsInRange (clients_in s) (segment_in s) (threshold_in s) (limit_in s)

-- what gave a value had one to begin with
pub then-some : {A B E : Type 0} (x : Result A E) (f : A → Result B E) (b : B) (P : Type 0) → (x >>= f) ≡ Ok b → ((a : A) → x ≡ Ok a → f a ≡ Ok b → P) → P
then-some (Ok a) f b P h k = k a refl h
then-some (Err e) f b P h k = cc

pub passed : {A E : Type 0} (b : Bool) (e : E) (rest : Result A E) (r : A) → cond b (Err e) rest ≡ Ok r → rest ≡ Ok r
passed true e rest r h = cc
passed false e rest r h = h

pub chosen : {A E : Type 0} (b : Bool) (x y : Result A E) (r : A) (P : Type 0) → cond b x y ≡ Ok r → (x ≡ Ok r → P) → (y ≡ Ok r → P) → P
chosen true x y r P h f g = f h
chosen false x y r P h f g = g h

pub same-ok : {A E : Type 0} (x : Result A E) (r s : A) → x ≡ Ok r → x ≡ Ok s → r ≡ s
same-ok x r s g h = cc

-- ---- a setting is in its range

pub within : (low high n m : ℕ) → number_within low high n ≡ Ok m → (low ≤ m) × (m ≤ high)
within low high n m h = tested (nat_le low n && nat_le n high) refl h
  where
    tested : (b : Bool) → (nat_le low n && nat_le n high) ≡ b → cond b (Ok n) (Err why.Number) ≡ Ok m → (low ≤ m) × (m ≤ high)
    tested true e h =
        let parts = and_parts (nat_le low n) (nat_le n high) e in
        let same : n ≡ m = cc in
        subst (λ k. (low ≤ k) × (k ≤ high)) same (leb-true low n parts.0, leb-true n high parts.1)
    tested false e h = cc

setting-within : (late : Bool) (given : Option ℕ) (low high : ℕ) (ws : List (List ℕ)) (m : ℕ) → setting_of late given low high ws ≡ Ok m → (low ≤ m) × (m ≤ high)
setting-within late given low high [] m h = cc
setting-within late given low high (w ∷ []) m h = then-some (number_on w) (number_within low high) m _ (passed (late || is_some given) why.Order _ m h) (λ n e k. within low high n m k)
setting-within late given low high (w ∷ v ∷ ws) m h = cc

clients-kept : (late : Bool) (s t : Settings) (ws : List (List ℕ)) → AreInRange s → take_clients late s ws ≡ Ok t → AreInRange t
clients-kept late s t ws a h = then-some (setting_of late s.clients 1 64 ws) _ t _ h (λ n e k. subst AreInRange (same-ok _ (record s { clients = Some n }) t refl k) (setting-within late s.clients 1 64 ws n e, a.1, a.2, a.3))

queues-kept : (late : Bool) (s t : Settings) (ws : List (List ℕ)) → AreInRange s → take_queues late s ws ≡ Ok t → AreInRange t
queues-kept late s t ws a h = then-some (setting_of late s.queues 1 256 ws) _ t _ h (λ n e k. subst AreInRange (same-ok _ (record s { queues = Some n }) t refl k) a)

segment-kept : (late : Bool) (s t : Settings) (ws : List (List ℕ)) → AreInRange s → take_segment late s ws ≡ Ok t → AreInRange t
segment-kept late s t ws a h = then-some (setting_of late s.segment 16 4096 ws) _ t _ h (λ n e k. subst AreInRange (same-ok _ (record s { segment = Some n }) t refl k) (a.0, setting-within late s.segment 16 4096 ws n e, a.2, a.3))

threshold-kept : (late : Bool) (s t : Settings) (ws : List (List ℕ)) → AreInRange s → take_threshold late s ws ≡ Ok t → AreInRange t
threshold-kept late s t ws a h = then-some (setting_of late s.threshold 1 65536 ws) _ t _ h (λ n e k. subst AreInRange (same-ok _ (record s { threshold = Some n }) t refl k) (a.0, a.1, setting-within late s.threshold 1 65536 ws n e, a.3))

limit-kept : (late : Bool) (s t : Settings) (ws : List (List ℕ)) → AreInRange s → take_limit late s ws ≡ Ok t → AreInRange t
limit-kept late s t ws a h = then-some (setting_of late s.limit 4096 16777216 ws) _ t _ h (λ n e k. subst AreInRange (same-ok _ (record s { limit = Some n }) t refl k) (a.0, a.1, a.2, setting-within late s.limit 4096 16777216 ws n e))

-- ---- settings are given before all clients and schedules

neither : (a b : Bool) → (a || b) ≡ false → (a ≡ false) × (b ≡ false)
neither false false h = (refl, refl)
neither false true h = cc
neither true b h = cc

refused-none : {A E : Type 0} (b : Bool) (e : E) (rest : Result A E) (r : A) → cond b (Err e) rest ≡ Ok r → b ≡ false
refused-none true e rest r h = cc
refused-none false e rest r h = refl

setting-early-of : (late : Bool) (given : Option ℕ) (low high : ℕ) (ws : List (List ℕ)) (m : ℕ) → setting_of late given low high ws ≡ Ok m → late ≡ false
setting-early-of late given low high [] m h = cc
setting-early-of late given low high (w ∷ []) m h = (neither late (is_some given) (refused-none (late || is_some given) why.Order _ m h)).0
setting-early-of late given low high (w ∷ v ∷ ws) m h = cc

same-some : {A E : Type 0} (x : Result A E) (t : A) → Some x ≡ Some (Ok t) → x ≡ Ok t
same-some x t h = cc

-- a setting is given before all clients and schedules, and the queues stay few
pub setting-early : (late : Bool) (s t : Settings) (w : List ℕ) (ws : List (List ℕ)) → queues_in s ≤ 256 → setting_line late s w ws ≡ Some (Ok t) → (late ≡ false) × (queues_in t ≤ 256)
setting-early late s t w ws narrow h = named (bytes_eq w (codes "clients")) (bytes_eq w (codes "queues")) (bytes_eq w (codes "segment")) (bytes_eq w (codes "threshold")) (bytes_eq w (codes "file")) h
  where
    kept : (given : Option ℕ) (low high : ℕ) (f : ℕ → Settings) → ((n : ℕ) → (low ≤ n) × (n ≤ high) → queues_in (f n) ≤ 256) → (setting_of late given low high ws >>= λ n. Ok (f n)) ≡ Ok t → (late ≡ false) × (queues_in t ≤ 256)
    kept given low high f few k = then-some (setting_of late given low high ws) _ t _ k (λ n e j. (setting-early-of late given low high ws n e, subst (λ (x : Settings). queues_in x ≤ 256) (same-ok _ (f n) t refl j) (few n (setting-within late given low high ws n e))))

    named : (b d e f g : Bool) → cond b (Some (take_clients late s ws)) (cond d (Some (take_queues late s ws)) (cond e (Some (take_segment late s ws)) (cond f (Some (take_threshold late s ws)) (cond g (Some (take_limit late s ws)) None)))) ≡ Some (Ok t) → (late ≡ false) × (queues_in t ≤ 256)
    named true d e f g k = kept s.clients 1 64 (λ n. record s { clients = Some n }) (λ n near. narrow) (same-some (take_clients late s ws) t k)
    named false true e f g k = kept s.queues 1 256 (λ n. record s { queues = Some n }) (λ n near. near.1) (same-some (take_queues late s ws) t k)
    named false false true f g k = kept s.segment 16 4096 (λ n. record s { segment = Some n }) (λ n near. narrow) (same-some (take_segment late s ws) t k)
    named false false false true g k = kept s.threshold 1 65536 (λ n. record s { threshold = Some n }) (λ n near. narrow) (same-some (take_threshold late s ws) t k)
    named false false false false true k = kept s.limit 4096 16777216 (λ n. record s { limit = Some n }) (λ n near. narrow) (same-some (take_limit late s ws) t k)
    named false false false false false k = cc

-- ---- other lines keep the settings

add-keeps : (r s : Reading) (c : ℕ) (q : Request) → add r c q ≡ Ok s → r.settings ≡ s.settings
add-keeps r s c q h = then-some (with_request r.streams c q) _ s _ h (λ streams e k. ap (λ (x : Reading). x.settings) (same-ok _ (record r { streams = streams }) s refl k))

client-keeps : (r s : Reading) (ws : List (List ℕ)) → take_client r ws ≡ Ok s → r.settings ≡ s.settings
client-keeps r s [] h = cc
client-keeps r s (w ∷ []) h = then-some (number_on w) _ s _ h (λ n e k. then-some (client_within (clients_in r.settings) n) _ s _ k (λ c f j. ap (λ (x : Reading). x.settings) (same-ok _ (record r { client = Some c }) s refl j)))
client-keeps r s (w ∷ v ∷ ws) h = cc

publish-keeps : (r s : Reading) (c : ℕ) (ws : List (List ℕ)) → publish_by r c ws ≡ Ok s → r.settings ≡ s.settings
publish-keeps r s c [] h = cc
publish-keeps r s c (q ∷ []) h = cc
publish-keeps r s c (q ∷ kind ∷ ws) h =
    then-some (queues_of (queues_in r.settings) q) (λ qs. (body_of (threshold_in r.settings) (kind ∷ ws) >>= λ body. add r c (Publish qs body))) s _ h
    (λ qs e k. then-some (body_of (threshold_in r.settings) (kind ∷ ws)) (λ body. add r c (Publish qs body)) s _ k (λ body f j. add-keeps r s c (Publish qs body) j))

get-keeps : (r s : Reading) (c : ℕ) (ws : List (List ℕ)) → get_by r c ws ≡ Ok s → r.settings ≡ s.settings
get-keeps r s c [] h = cc
get-keeps r s c (w ∷ []) h =
    then-some (number_on w) (λ n. (queue_within (queues_in r.settings) n >>= λ q. add r c (Get q))) s _ h
    (λ n e k. then-some (queue_within (queues_in r.settings) n) (λ q. add r c (Get q)) s _ k (λ q f j. add-keeps r s c (Get q) j))
get-keeps r s c (w ∷ v ∷ ws) h = cc

ack-keeps : (r s : Reading) (c : ℕ) (ws : List (List ℕ)) → ack_by r c ws ≡ Ok s → r.settings ≡ s.settings
ack-keeps r s c [] h = cc
ack-keeps r s c (w ∷ []) h =
    then-some (number_on w) (λ n. (number_within 0 4294967295 n >>= λ d. add r c (Ack d))) s _ h
    (λ n e k. then-some (number_within 0 4294967295 n) (λ d. add r c (Ack d)) s _ k (λ d f j. add-keeps r s c (Ack d) j))
ack-keeps r s c (w ∷ v ∷ ws) h = cc

end-keeps : (r s : Reading) (c : ℕ) (ws : List (List ℕ)) → end_by r c ws ≡ Ok s → r.settings ≡ s.settings
end-keeps r s c [] h = add-keeps r s c End h
end-keeps r s c (w ∷ ws) h = cc

of-keeps : (r s : Reading) (f : ℕ → Result Reading Why) → of_client r f ≡ Ok s → ((c : ℕ) → f c ≡ Ok s → r.settings ≡ s.settings) → r.settings ≡ s.settings
of-keeps r s f h k = then-some (client_now r) f s _ h (λ c e j. k c j)

schedule-keeps : (n : ℕ) (r s : Reading) (ws : List (List ℕ)) → scheduled_by n r ws ≡ Ok s → r.settings ≡ s.settings
schedule-keeps n r s ws h =
    then-some (each (run_of (clients_in r.settings)) ws) (with_schedule n r) s _ h
    (λ runs e k. then-some (with_runs r.steps runs) _ s _ k
    (λ steps f j. ap (λ (x : Reading). x.settings) (same-ok _ (record r { steps = steps; scheduled = Some (unwrap_or r.scheduled n) }) s refl j)))

schedules-keep : (n : ℕ) (r s : Reading) (ws : List (List ℕ)) → take_schedule n r ws ≡ Ok s → r.settings ≡ s.settings
schedules-keep n r s [] h = cc
schedules-keep n r s (w ∷ ws) h = schedule-keeps n r s (w ∷ ws) h

line-keeps : (n : ℕ) (r s : Reading) (w : List ℕ) (ws : List (List ℕ)) → take_line n r w ws ≡ Ok s → r.settings ≡ s.settings
line-keeps n r s w ws h =
    chosen (bytes_eq w (codes "client")) _ _ s _ h (client-keeps r s ws)
    (λ h. chosen (bytes_eq w (codes "publish")) _ _ s _ h (λ k. of-keeps r s (λ c. publish_by r c ws) k (λ c. publish-keeps r s c ws))
    (λ h. chosen (bytes_eq w (codes "get")) _ _ s _ h (λ k. of-keeps r s (λ c. get_by r c ws) k (λ c. get-keeps r s c ws))
    (λ h. chosen (bytes_eq w (codes "ack")) _ _ s _ h (λ k. of-keeps r s (λ c. ack_by r c ws) k (λ c. ack-keeps r s c ws))
    (λ h. chosen (bytes_eq w (codes "end")) _ _ s _ h (λ k. of-keeps r s (λ c. end_by r c ws) k (λ c. end-keeps r s c ws))
    (λ h. chosen (bytes_eq w (codes "schedule")) _ _ s _ h (schedules-keep n r s ws)
    (λ h. cc))))))

-- ---- lines

set-kept : (n : ℕ) (r s : Reading) (read : Result Settings Why) → ((t : Settings) → read ≡ Ok t → AreInRange t) → (read >>= λ t. Ok (record r { settings = t })) ≡ Ok s → AreInRange s.settings
set-kept n r s read f h = then-some read _ s _ h (λ t e k. subst (λ (x : Reading). AreInRange x.settings) (same-ok _ (record r { settings = t }) s refl k) (f t e))

words-kept : (n : ℕ) (r s : Reading) (ws : List (List ℕ)) → AreInRange r.settings → take_words n r ws ≡ Ok s → AreInRange s.settings
words-kept n r s [] a h = cc
words-kept n r s (w ∷ ws) a h = named (bytes_eq w (codes "clients")) (bytes_eq w (codes "queues")) (bytes_eq w (codes "segment")) (bytes_eq w (codes "threshold")) (bytes_eq w (codes "file")) h
  where
    named : (b d e f g : Bool) → set_or_take n r w ws (cond b (Some (take_clients (has_begun r) r.settings ws)) (cond d (Some (take_queues (has_begun r) r.settings ws)) (cond e (Some (take_segment (has_begun r) r.settings ws)) (cond f (Some (take_threshold (has_begun r) r.settings ws)) (cond g (Some (take_limit (has_begun r) r.settings ws)) None))))) ≡ Ok s → AreInRange s.settings
    named true d e f g h = set-kept n r s _ (λ t k. clients-kept (has_begun r) r.settings t ws a k) h
    named false true e f g h = set-kept n r s _ (λ t k. queues-kept (has_begun r) r.settings t ws a k) h
    named false false true f g h = set-kept n r s _ (λ t k. segment-kept (has_begun r) r.settings t ws a k) h
    named false false false true g h = set-kept n r s _ (λ t k. threshold-kept (has_begun r) r.settings t ws a k) h
    named false false false false true h = set-kept n r s _ (λ t k. limit-kept (has_begun r) r.settings t ws a k) h
    named false false false false false h = subst AreInRange (line-keeps n r s w ws h) a

line-kept : (n : ℕ) (r s : Reading) (line : List ℕ) → AreInRange r.settings → read_line n r line ≡ Ok s → AreInRange s.settings
line-kept n r s line a h =
    chosen (is_passed_over line) _ _ s _ h (λ k. subst (λ (x : Reading). AreInRange x.settings) (same-ok _ r s refl k) a)
    (λ k. words-kept n r s (words line) a (passed (not (list_all is_printable line) || not (is_spaced (words line))) why.Word _ s k))

pub at-ok : (n : ℕ) (r : Reading) (read : Result Reading Why) → at_line n read ≡ Ok r → read ≡ Ok r
at-ok n r (Ok q) h = ap Ok (same-ok _ q r refl h)
at-ok n r (Err w) h = cc

lines-kept : (n : ℕ) (r s : Reading) (ls : List (List ℕ)) → AreInRange r.settings → read_lines n r ls ≡ Ok s → AreInRange s.settings
lines-kept n r s [] a h = subst (λ (x : Reading). AreInRange x.settings) (same-ok _ r s refl h) a
lines-kept n r s (l ∷ ls) a h = then-some (at_line n (read_line n r l)) _ s _ h (λ q e k. lines-kept (n + 1) q s ls (line-kept n r q l a (at-ok n q (read_line n r l) e)) k)

-- what a script sets is in range
pub script-in-range : (bytes : List ℕ) (s : Reading) → script_of bytes ≡ Ok s → AreInRange s.settings
script-in-range bytes s h =
    lines-kept 1 nothing_read s (script_lines bytes) ((omega arith, omega arith), (omega arith, omega arith), (omega arith, omega arith), (omega arith, omega arith))
    (passed (nat_lt 67108864 (length bytes)) (script_error.Bad (line_ends (take 67108864 bytes) + 1) why.Long) _ s h)
