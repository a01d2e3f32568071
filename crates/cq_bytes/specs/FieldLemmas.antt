-- Numbers are read where they were written, and written where they were read.
use Rattle.std.proofs.Common.{◌≡◌, ℕ, ◌+◌, ◌*◌, ◌/◌, ◌%◌, ◌^◌, ◌<◌, ◌≤◌, List, [], ◌∷◌, ◌++◌, length, get_or, take, drop, refl, ap, sym, ◌∙◌, arith}
use Rattle.std.specs.Int.{Width, w64, w128, byte_len, to_be_bytes, from_be_bytes}
use Rattle.std.proofs.lemmas.Nat.{from_be_bytes-to_be_bytes_8, be_bytes_8}
use Rattle.std.proofs.lemmas.List.{get_or-take, get_or-drop, take-append-drop, length-take-le, drop-drop}
use Rattle.std.proofs.lemmas.Grind.{common_steps}
use Rattle.std.proofs.Common.{length-drop}
use Rattle.cq_bytes.specs.Field.{number_at}

pub take_small : (n : ℕ) (bs : List ℕ) (i : ℕ) → ((j : ℕ) → get_or bs j 0 < 256) → get_or (take n bs) i 0 < 256
take_small n bs i small = grind (arith, common_steps, small)

pub drop_small : (n : ℕ) (bs : List ℕ) (i : ℕ) → ((j : ℕ) → get_or bs j 0 < 256) → get_or (drop n bs) i 0 < 256
drop_small n bs i small = rw (get_or-drop n bs i 0) (small (n + i))

-- sixteen bytes are twice eight
pub halves : (hi lo : ℕ) → lo < 2 ^ 64 → to_be_bytes w128 (hi * 2 ^ 64 + lo) ≡ to_be_bytes w64 hi ++ to_be_bytes w64 lo
halves hi lo low =
    let b15 : (hi * 18446744073709551616 + lo) / 1329227995784915872903807060280344576 % 256 ≡ hi / 72057594037927936 % 256 = omega (arith, low) in
    let b14 : (hi * 18446744073709551616 + lo) / 5192296858534827628530496329220096 % 256 ≡ hi / 281474976710656 % 256 = omega (arith, low) in
    let b13 : (hi * 18446744073709551616 + lo) / 20282409603651670423947251286016 % 256 ≡ hi / 1099511627776 % 256 = omega (arith, low) in
    let b12 : (hi * 18446744073709551616 + lo) / 79228162514264337593543950336 % 256 ≡ hi / 4294967296 % 256 = omega (arith, low) in
    let b11 : (hi * 18446744073709551616 + lo) / 309485009821345068724781056 % 256 ≡ hi / 16777216 % 256 = omega (arith, low) in
    let b10 : (hi * 18446744073709551616 + lo) / 1208925819614629174706176 % 256 ≡ hi / 65536 % 256 = omega (arith, low) in
    let b9 : (hi * 18446744073709551616 + lo) / 4722366482869645213696 % 256 ≡ hi / 256 % 256 = omega (arith, low) in
    let b8 : (hi * 18446744073709551616 + lo) / 18446744073709551616 % 256 ≡ hi % 256 = omega (arith, low) in
    let b7 : (hi * 18446744073709551616 + lo) / 72057594037927936 % 256 ≡ lo / 72057594037927936 % 256 = omega (arith, low) in
    let b6 : (hi * 18446744073709551616 + lo) / 281474976710656 % 256 ≡ lo / 281474976710656 % 256 = omega (arith, low) in
    let b5 : (hi * 18446744073709551616 + lo) / 1099511627776 % 256 ≡ lo / 1099511627776 % 256 = omega (arith, low) in
    let b4 : (hi * 18446744073709551616 + lo) / 4294967296 % 256 ≡ lo / 4294967296 % 256 = omega (arith, low) in
    let b3 : (hi * 18446744073709551616 + lo) / 16777216 % 256 ≡ lo / 16777216 % 256 = omega (arith, low) in
    let b2 : (hi * 18446744073709551616 + lo) / 65536 % 256 ≡ lo / 65536 % 256 = omega (arith, low) in
    let b1 : (hi * 18446744073709551616 + lo) / 256 % 256 ≡ lo / 256 % 256 = omega (arith, low) in
    let b0 : (hi * 18446744073709551616 + lo) % 256 ≡ lo % 256 = omega (arith, low) in
    λ i. b15 i ∷ b14 i ∷ b13 i ∷ b12 i ∷ b11 i ∷ b10 i ∷ b9 i ∷ b8 i ∷ b7 i ∷ b6 i ∷ b5 i ∷ b4 i ∷ b3 i ∷ b2 i ∷ b1 i ∷ b0 i ∷ []

joined : (bs : List ℕ) → from_be_bytes w128 bs ≡ from_be_bytes w64 (take 8 bs) * 2 ^ 64 + from_be_bytes w64 (drop 8 bs)
joined bs =
    let t : (i : ℕ) → i < 8 → get_or (take 8 bs) i 0 ≡ get_or bs i 0 = λ i lt. get_or-take 8 bs i 0 lt in
    let d : (i : ℕ) → get_or (drop 8 bs) i 0 ≡ get_or bs (8 + i) 0 = λ i. get_or-drop 8 bs i 0 in
    omega (arith, t 0 (omega arith), t 1 (omega arith), t 2 (omega arith), t 3 (omega arith), t 4 (omega arith), t 5 (omega arith), t 6 (omega arith), t 7 (omega arith), d 0, d 1, d 2, d 3, d 4, d 5, d 6, d 7)

pub word_fits : (bs : List ℕ) → ((i : ℕ) → get_or bs i 0 < 256) → from_be_bytes w64 bs < 2 ^ 64
word_fits bs small = omega (arith, small 0, small 1, small 2, small 3, small 4, small 5, small 6, small 7)

pub be_bytes_16 : (bs : List ℕ) (n : ℕ) → length bs ≡ 16 → ((i : ℕ) → get_or bs i 0 < 256) → n ≡ from_be_bytes w128 bs → to_be_bytes w128 n ≡ bs
be_bytes_16 bs n l small is =
    let hi = from_be_bytes w64 (take 8 bs) in
    let lo = from_be_bytes w64 (drop 8 bs) in
    let high_small : (i : ℕ) → get_or (take 8 bs) i 0 < 256 = λ i. take_small 8 bs i small in
    let low_small : (i : ℕ) → get_or (drop 8 bs) i 0 < 256 = λ i. drop_small 8 bs i small in
    let high : to_be_bytes w64 hi ≡ take 8 bs = be_bytes_8 (take 8 bs) hi (omega (arith, l, length-take-le 8 bs (omega (arith, l)))) high_small refl in
    let low : to_be_bytes w64 lo ≡ drop 8 bs = be_bytes_8 (drop 8 bs) lo (omega (arith, l, length-drop 8 bs)) low_small refl in
    ap (to_be_bytes w128) (is ∙ joined bs) ∙ halves hi lo (word_fits (drop 8 bs) low_small) ∙ ap (λ (x : List ℕ). x ++ to_be_bytes w64 lo) high ∙ ap (λ (x : List ℕ). take 8 bs ++ x) low ∙ take-append-drop 8 bs

pub from_be_bytes-to_be_bytes_16 : (n : ℕ) → n < 2 ^ 128 → from_be_bytes w128 (to_be_bytes w128 n) ≡ n
from_be_bytes-to_be_bytes_16 n fits =
    let hi = n / 18446744073709551616 in
    let lo = n % 18446744073709551616 in
    let split : n ≡ hi * 2 ^ 64 + lo = omega arith in
    let low : lo < 2 ^ 64 = omega arith in
    ap (λ m. from_be_bytes w128 (to_be_bytes w128 m)) split ∙ ap (from_be_bytes w128) (halves hi lo low) ∙ joined (to_be_bytes w64 hi ++ to_be_bytes w64 lo)
    ∙ ap (λ m. m * 2 ^ 64 + from_be_bytes w64 (to_be_bytes w64 lo)) (from_be_bytes-to_be_bytes_8 hi (omega arith))
    ∙ ap (λ m. hi * 2 ^ 64 + m) (from_be_bytes-to_be_bytes_8 lo low)
    ∙ sym split

-- what is read of sixteen bytes fits
pub wide_fits : (bs : List ℕ) → ((i : ℕ) → get_or bs i 0 < 256) → from_be_bytes w128 bs < 2 ^ 128
wide_fits bs small =
    let hi = word_fits (take 8 bs) (λ i. take_small 8 bs i small) in
    let lo = word_fits (drop 8 bs) (λ i. drop_small 8 bs i small) in
    omega (arith, joined bs, hi, lo)

-- what is read of a field, written again, stands there
pub put_back : (w : Width) (bytes : List ℕ) (at : ℕ) → ((bs : List ℕ) (n : ℕ) → length bs ≡ byte_len w → ((i : ℕ) → get_or bs i 0 < 256) → n ≡ from_be_bytes w bs → to_be_bytes w n ≡ bs) → ((i : ℕ) → get_or bytes i 0 < 256) → at + byte_len w ≤ length bytes
    → to_be_bytes w (number_at w bytes at) ++ drop (at + byte_len w) bytes ≡ drop at bytes
put_back w bytes at be small inside =
    let rest = drop at bytes in
    let rest_small : (i : ℕ) → get_or rest i 0 < 256 = λ i. drop_small at bytes i small in
    let len : length (take (byte_len w) rest) ≡ byte_len w = length-take-le (byte_len w) rest (omega (arith, inside, length-drop at bytes)) in
    let front : to_be_bytes w (number_at w bytes at) ≡ take (byte_len w) rest = be (take (byte_len w) rest) (number_at w bytes at) len (λ i. take_small (byte_len w) rest i rest_small) refl in
    ap (λ (x : List ℕ). x ++ drop (at + byte_len w) bytes) front ∙ ap (λ (x : List ℕ). take (byte_len w) rest ++ x) (sym (drop-drop (byte_len w) at bytes)) ∙ take-append-drop (byte_len w) rest
