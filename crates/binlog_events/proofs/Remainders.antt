-- Remainders are linear, and what a table of them gives.
use Rattle.std.proofs.Common.{◌≡◌, ℕ, zero, suc, ◌+◌, ◌*◌, ◌/◌, ◌%◌, ◌^◌, ◌<◌, ◌≤◌, ◌-◌, List, [], ◌∷◌, ◌++◌, length, take, drop, slice_index, refl, sym, ap, ◌∙◌, arith, drop-cons, length-drop, add-zero, zero-add, lit≤, subst}
use Rattle.std.proofs.lemmas.List.{take-append-drop, drop-drop, drop_all, get_or-drop}
use Rattle.std.specs.Prelude.{bit_xor}
use Rattle.std.specs.Int.Bits.{xor_zero_l, xor_zero_r, xor_self}
use Rattle.std.proofs.lemmas.Nat.{pow_pos, mod_below, mod_low, mod-pow-add, shl-shr, shr_below, shr_split, xor_shr, xor_block, xor_comm, shr-shr}
use Rattle.std.proofs.Math.Nat.{pow-suc, div-eq_of_lt}
use Rattle.std.proofs.lemmas.Nat.Bits.{bit_at_xor, bit_at_lowest, same_from_bits}
use Rattle.byteorder.specs.Endian.{little_from, little_number}
use Rattle.binlog_events.specs.Crc32.{polynomial, after_bit, after_bits, after_bytes}

pub xor_assoc : (a b c : ℕ) → bit_xor (bit_xor a b) c ≡ bit_xor a (bit_xor b c)
xor_assoc a b c = same_from_bits _ _ (λ i. omega (arith, bit_at_xor (bit_xor a b) c i, bit_at_xor a b i, bit_at_xor a (bit_xor b c) i, bit_at_xor b c i))

pub xor_swap : (a b c d : ℕ) → bit_xor (bit_xor a b) (bit_xor c d) ≡ bit_xor (bit_xor a c) (bit_xor b d)
xor_swap a b c d = same_from_bits _ _ (λ i. omega (arith, bit_at_xor (bit_xor a b) (bit_xor c d) i, bit_at_xor a b i, bit_at_xor c d i, bit_at_xor (bit_xor a c) (bit_xor b d) i, bit_at_xor a c i, bit_at_xor b d i))

-- one bit times a number
times_0 : (d p : ℕ) → d ≡ 0 → d * p ≡ 0
times_0 d p e = rw e (omega arith)

times_1 : (d p : ℕ) → d ≡ 1 → d * p ≡ p
times_1 d p e = rw e (omega arith)

times_xor : (a b s p : ℕ) → a < 2 → b < 2 → s ≡ (a + b) % 2 → s * p ≡ bit_xor (a * p) (b * p)
times_xor zero zero s p ha hb e = times_0 s p (omega (arith, e)) ∙ sym (ap (λ (x : ℕ). bit_xor x x) (times_0 0 p refl))
times_xor zero (suc b) s p ha hb e = let one : suc b ≡ 1 = omega arith in
    times_1 s p (omega (arith, e)) ∙ sym (ap (λ (x : ℕ). bit_xor x (suc b * p)) (times_0 0 p refl) ∙ xor_zero_l (suc b * p) ∙ times_1 (suc b) p one)
times_xor (suc a) zero s p ha hb e = let one : suc a ≡ 1 = omega arith in
    times_1 s p (omega (arith, e)) ∙ sym (ap (λ (x : ℕ). bit_xor (suc a * p) x) (times_0 0 p refl) ∙ xor_zero_r (suc a * p) ∙ times_1 (suc a) p one)
times_xor (suc a) (suc b) s p ha hb e =
    let both : suc a ≡ suc b = omega arith in
    times_0 s p (omega (arith, e)) ∙ sym (ap (λ (x : ℕ). bit_xor (x * p) (suc b * p)) both ∙ xor_self (suc b * p))

pub after_bit_xor : (a b : ℕ) → after_bit (bit_xor a b) ≡ bit_xor (after_bit a) (after_bit b)
unfolding after_bit
after_bit_xor a b =
    let low : bit_xor a b % 2 ≡ (a % 2 + b % 2) % 2 = omega (arith, bit_at_xor a b 0, bit_at_lowest (bit_xor a b), bit_at_lowest a, bit_at_lowest b) in
    ap (λ (x : ℕ). bit_xor (bit_xor a b / 2) x) (times_xor (a % 2) (b % 2) (bit_xor a b % 2) polynomial (omega arith) (omega arith) low)
    ∙ ap (λ (x : ℕ). bit_xor x (bit_xor (a % 2 * polynomial) (b % 2 * polynomial))) (xor_shr a b 1)
    ∙ xor_swap (a / 2) (b / 2) (a % 2 * polynomial) (b % 2 * polynomial)

pub after_bits_xor : (n a b : ℕ) → after_bits n (bit_xor a b) ≡ bit_xor (after_bits n a) (after_bits n b)
unfolding after_bits
after_bits_xor zero a b = refl
after_bits_xor (suc n) a b = ap (after_bits n) (after_bit_xor a b) ∙ after_bits_xor n (after_bit a) (after_bit b)

pub after_more : (m n r : ℕ) → after_bits (m + n) r ≡ after_bits n (after_bits m r)
unfolding after_bits
after_more zero n r = let e : 0 + n ≡ n = omega arith in ap (λ (k : ℕ). after_bits k r) e
after_more (suc m) n r = let e : suc m + n ≡ suc (m + n) = omega arith in ap (λ (k : ℕ). after_bits k r) e ∙ after_more m n (after_bit r)

-- a bit that is 0 is shifted out
after_even : (m : ℕ) → after_bit (m * 2) ≡ m
unfolding after_bit
after_even m =
    let half : m * 2 / 2 ≡ m = omega arith in
    let low : m * 2 % 2 ≡ 0 = omega arith in
    ap (λ (x : ℕ). bit_xor x (m * 2 % 2 * polynomial)) half ∙ ap (bit_xor m) (times_0 (m * 2 % 2) polynomial low) ∙ xor_zero_r m

after_zeros : (k m : ℕ) → after_bits k (m * 2 ^ k) ≡ m
unfolding after_bits
after_zeros zero m = omega arith
after_zeros (suc k) m =
    let e : m * 2 ^ suc k ≡ m * 2 ^ k * 2 = rw pow-suc (omega arith) in
    ap (after_bits (suc k)) e ∙ ap (after_bits k) (after_even (m * 2 ^ k)) ∙ after_zeros k m

-- the lowest k bits beside the others
low_apart : (k w : ℕ) → w ≡ bit_xor (w % 2 ^ k) (w / 2 ^ k * 2 ^ k)
low_apart k w =
    let b = w % 2 ^ k in
    let m = w / 2 ^ k in
    let below : b < 2 ^ k = mod_below w (2 ^ k) (pow_pos k) in
    let low : b ≡ 0 * 2 ^ k + b = omega arith in
    let high : m * 2 ^ k ≡ m * 2 ^ k + 0 = omega arith in
    sym ((λ i. bit_xor (low i) (high i)) ∙ xor_block k 0 m b 0 below (pow_pos k) ∙ (λ i. xor_zero_l m i * 2 ^ k + xor_zero_r b i) ∙ shr_split w k)

-- the lowest k bits are looked up, and then the others
after_lowest : (k n w : ℕ) → after_bits (k + n) w ≡ bit_xor (after_bits (k + n) (w % 2 ^ k)) (after_bits n (w / 2 ^ k))
after_lowest k n w =
    ap (after_bits (k + n)) (low_apart k w)
    ∙ after_bits_xor (k + n) (w % 2 ^ k) (w / 2 ^ k * 2 ^ k)
    ∙ ap (bit_xor (after_bits (k + n) (w % 2 ^ k))) (after_more k n (w / 2 ^ k * 2 ^ k) ∙ ap (after_bits n) (after_zeros k (w / 2 ^ k)))

-- the lowest byte beside the others
byte_apart : (b m : ℕ) → b < 256 → b + 256 * m ≡ bit_xor b (m * 2 ^ 8)
byte_apart b m h =
    let low : (b + 256 * m) % 2 ^ 8 ≡ b = omega arith in
    let high : (b + 256 * m) / 2 ^ 8 ≡ m = omega arith in
    low_apart 8 (b + 256 * m) ∙ (λ i. bit_xor (low i) (high i * 2 ^ 8))

-- a byte is taken in, and those after it wait
after_byte : (r b m : ℕ) → b < 256 → after_bits 8 (bit_xor r (b + 256 * m)) ≡ bit_xor (after_bits 8 (bit_xor r b)) m
after_byte r b m h =
    ap (λ (x : ℕ). after_bits 8 (bit_xor r x)) (byte_apart b m h) ∙ ap (after_bits 8) (sym (xor_assoc r b (m * 2 ^ 8)))
    ∙ after_bits_xor 8 (bit_xor r b) (m * 2 ^ 8) ∙ ap (bit_xor (after_bits 8 (bit_xor r b))) (after_zeros 8 m)

-- n bytes from place i, taken in at once
pub after_number : (n i r : ℕ) (xs : List ℕ) → i + n ≤ length xs → ((k : ℕ) → slice_index xs k < 256)
    → after_bytes (after_bits (8 * n) (bit_xor r (little_from i n xs))) (drop (i + n) xs) ≡ after_bytes r (drop i xs)
unfolding after_bits
after_number zero i r xs there bytes =
    let none : 8 * 0 ≡ 0 = omega arith in
    let same : i + 0 ≡ i = omega arith in
    ap (λ (k : ℕ). after_bytes (after_bits k (bit_xor r 0)) (drop (i + 0) xs)) none
    ∙ ap (λ (x : ℕ). after_bytes x (drop (i + 0) xs)) (xor_zero_r r) ∙ ap (λ (k : ℕ). after_bytes r (drop k xs)) same
after_number (suc n) i r xs there bytes =
    let b = slice_index xs i in
    let m = little_from (suc i) n xs in
    let step = after_bits 8 (bit_xor r b) in
    let bits : 8 * suc n ≡ 8 + 8 * n = omega arith in
    let place : i + suc n ≡ suc i + n = omega arith in
    ap (λ (k : ℕ). after_bytes (after_bits k (bit_xor r (b + 256 * m))) (drop (i + suc n) xs)) bits
    ∙ ap (λ (k : ℕ). after_bytes (after_bits (8 + 8 * n) (bit_xor r (b + 256 * m))) (drop k xs)) place
    ∙ ap (λ (x : ℕ). after_bytes x (drop (suc i + n) xs)) (after_more 8 (8 * n) (bit_xor r (b + 256 * m)) ∙ ap (after_bits (8 * n)) (after_byte r b m (bytes i)))
    ∙ after_number n (suc i) step xs (omega arith) bytes
    ∙ ap (after_bytes r) (sym (drop-cons xs i 0 (omega arith)))

-- a remainder before bytes is apart from them
pub from_zero : (n s : ℕ) (xs : List ℕ) → n ≡ 8 * length xs → after_bytes s xs ≡ bit_xor (after_bits n s) (after_bytes 0 xs)
unfolding after_bits
from_zero n s [] e = let none : n ≡ 0 = omega (arith, e) in sym (ap (λ (k : ℕ). bit_xor (after_bits k s) 0) none ∙ xor_zero_r s)
from_zero n s (b ∷ xs) e =
    let more : n ≡ 8 + 8 * length xs = omega (arith, e) in
    let m = 8 * length xs in
    from_zero m (after_bits 8 (bit_xor s b)) xs refl
    ∙ ap (λ (v : ℕ). bit_xor v (after_bytes 0 xs)) (ap (after_bits m) (after_bits_xor 8 s b) ∙ after_bits_xor m (after_bits 8 s) (after_bits 8 b))
    ∙ xor_assoc (after_bits m (after_bits 8 s)) (after_bits m (after_bits 8 b)) (after_bytes 0 xs)
    ∙ ap (bit_xor (after_bits m (after_bits 8 s))) (sym (from_zero m (after_bits 8 b) xs refl))
    ∙ ap (λ (v : ℕ). bit_xor v (after_bytes (after_bits 8 b) xs)) (sym (ap (λ (k : ℕ). after_bits k s) more ∙ after_more 8 m s))

pub after_append : (r : ℕ) (xs ys : List ℕ) → after_bytes r (xs ++ ys) ≡ after_bytes (after_bytes r xs) ys
after_append r [] ys = refl
after_append r (b ∷ xs) ys = after_append (after_bits 8 (bit_xor r b)) xs ys

-- the lowest byte of a word is looked up
lowest_byte : (m n w v : ℕ) → m ≡ 8 + n → v ≡ w / 2 ^ 8 → after_bits m w ≡ bit_xor (after_bits m (w % 256)) (after_bits n v)
lowest_byte m n w v em ev =
    ap (λ (k : ℕ). after_bits k w) em ∙ after_lowest 8 n w
    ∙ (λ i. bit_xor (after_bits (sym em i) (w % 256)) (after_bits n (sym ev i)))

-- a word by the tables, with k bytes behind it
pub word_in_tables : (k w : ℕ) → after_bits (8 * (k + 4)) w ≡ bit_xor (bit_xor (after_bits (8 * (k + 3 + 1)) (w % 256)) (after_bits (8 * (k + 2 + 1)) (w / 2 ^ 8 % 256))) (bit_xor (after_bits (8 * (k + 1 + 1)) (w / 2 ^ 16 % 256)) (after_bits (8 * (k + 1)) (w / 2 ^ 24)))
word_in_tables k w =
    let n0 = 8 * (k + 1) in
    let n1 = 8 * (k + 1 + 1) in
    let n2 = 8 * (k + 2 + 1) in
    let n3 = 8 * (k + 3 + 1) in
    let e : 8 * (k + 4) ≡ n3 = omega arith in
    ap (λ (n : ℕ). after_bits n w) e
    ∙ lowest_byte n3 n2 w (w / 2 ^ 8) (omega arith) refl
    ∙ ap (bit_xor (after_bits n3 (w % 256))) (lowest_byte n2 n1 (w / 2 ^ 8) (w / 2 ^ 16) (omega arith) (sym (shr-shr w 8 8))
    ∙ ap (bit_xor (after_bits n2 (w / 2 ^ 8 % 256))) (lowest_byte n1 n0 (w / 2 ^ 16) (w / 2 ^ 24) (omega arith) (sym (shr-shr w 16 8))))
    ∙ sym (xor_assoc (after_bits n3 (w % 256)) (after_bits n2 (w / 2 ^ 8 % 256)) (bit_xor (after_bits n1 (w / 2 ^ 16 % 256)) (after_bits n0 (w / 2 ^ 24))))

-- the third byte of a word
third_of_word : (p : ℕ) (xs : List ℕ) → ((k : ℕ) → slice_index xs k < 256) → little_number 4 (drop p xs) / 2 ^ 16 % 256 ≡ slice_index xs (p + 2)
third_of_word p xs bytes =
    let at : (k : ℕ) → slice_index (drop p xs) k ≡ slice_index xs (p + k) = λ k. get_or-drop p xs k 0 in
    omega (arith, at 0, at 1, at 2, at 3, bytes (p + 0), bytes (p + 1), bytes (p + 2), bytes (p + 3))

-- the word at a place by the tables, whose third byte is read by itself
pub place_in_tables : (k p w b : ℕ) (xs : List ℕ) → ((j : ℕ) → slice_index xs j < 256) → w ≡ little_number 4 (drop p xs) → b ≡ slice_index xs (p + 2)
    → after_bits (8 * (k + 4)) (little_number 4 (drop p xs)) ≡ bit_xor (bit_xor (after_bits (8 * (k + 3 + 1)) (w % 256)) (after_bits (8 * (k + 2 + 1)) (w / 2 ^ 8 % 256))) (bit_xor (after_bits (8 * (k + 1 + 1)) b) (after_bits (8 * (k + 1)) (w / 2 ^ 24)))
place_in_tables k p w b xs bytes ew eb =
    let third : w / 2 ^ 16 % 256 ≡ b = ap (λ (x : ℕ). x / 2 ^ 16 % 256) ew ∙ third_of_word p xs bytes ∙ sym eb in
    ap (after_bits (8 * (k + 4))) (sym ew) ∙ word_in_tables k w
    ∙ ap (λ (x : ℕ). bit_xor (bit_xor (after_bits (8 * (k + 3 + 1)) (w % 256)) (after_bits (8 * (k + 2 + 1)) (w / 2 ^ 8 % 256))) (bit_xor (after_bits (8 * (k + 1 + 1)) x) (after_bits (8 * (k + 1)) (w / 2 ^ 24)))) third

-- the first word of these bytes apart from the n bits behind it
first_word : (n r w : ℕ) (xs : List ℕ) → 4 ≤ length xs → 32 + n ≡ 8 * length xs → ((k : ℕ) → slice_index xs k < 256) → w ≡ bit_xor (little_number 4 xs) r
    → after_bytes r xs ≡ bit_xor (after_bytes 0 (drop 4 xs)) (after_bits (32 + n) w)
first_word n r w xs long e bytes is =
    sym (after_number 4 0 r xs (omega arith) bytes)
    ∙ ap (λ (v : ℕ). after_bytes (after_bits 32 v) (drop 4 xs)) (xor_comm r (little_number 4 xs) ∙ sym is)
    ∙ from_zero n (after_bits 32 w) (drop 4 xs) (omega (arith, length-drop 4 xs))
    ∙ xor_comm (after_bits n (after_bits 32 w)) (after_bytes 0 (drop 4 xs))
    ∙ ap (bit_xor (after_bytes 0 (drop 4 xs))) (sym (after_more 32 n w))

-- the word at place i
word_at : (n i j w : ℕ) (xs : List ℕ) → j ≡ i + 4 → 32 + n + 8 * i ≡ 8 * length xs → ((k : ℕ) → slice_index xs k < 256) → w ≡ little_number 4 (drop i xs)
    → after_bytes 0 (drop i xs) ≡ bit_xor (after_bytes 0 (drop j xs)) (after_bits (32 + n) w)
word_at n i j w xs ej e bytes is =
    first_word n 0 w (drop i xs) (omega (arith, length-drop i xs)) (omega (arith, length-drop i xs)) (λ k. rw (get_or-drop i xs k 0) (bytes (i + k))) (is ∙ sym (xor_zero_r (little_number 4 (drop i xs))))
    ∙ ap (λ (ys : List ℕ). bit_xor (after_bytes 0 ys) (after_bits (32 + n) w)) (drop-drop 4 i xs ∙ ap (λ (k : ℕ). drop k xs) (sym ej))

last_word : (i w : ℕ) (xs : List ℕ) → i + 4 ≡ length xs → ((k : ℕ) → slice_index xs k < 256) → w ≡ little_number 4 (drop i xs) → after_bytes 0 (drop i xs) ≡ after_bits 32 w
last_word i w xs e bytes is =
    word_at 0 i (i + 4) w xs refl (omega arith) bytes is
    ∙ ap (λ (ys : List ℕ). bit_xor (after_bytes 0 ys) (after_bits 32 w)) (drop_all (i + 4) xs (omega arith)) ∙ xor_zero_l (after_bits 32 w)

pub pair_in_words : (r a b : ℕ) (xs : List ℕ) → length xs ≡ 8 → ((k : ℕ) → slice_index xs k < 256) → a ≡ bit_xor (little_number 4 xs) r → b ≡ little_number 4 (drop 4 xs)
    → after_bytes r xs ≡ bit_xor (after_bits 32 b) (after_bits 64 a)
pair_in_words r a b xs long bytes ea eb =
    first_word 32 r a xs (omega arith) (omega arith) bytes ea
    ∙ ap (λ (x : ℕ). bit_xor x (after_bits 64 a)) (last_word 4 b xs (omega arith) bytes eb)

pub step_in_words : (r a b c d : ℕ) (xs : List ℕ) → length xs ≡ 16 → ((k : ℕ) → slice_index xs k < 256)
    → a ≡ bit_xor (little_number 4 xs) r → b ≡ little_number 4 (drop 4 xs) → c ≡ little_number 4 (drop 8 xs) → d ≡ little_number 4 (drop 12 xs)
    → after_bytes r xs ≡ bit_xor (bit_xor (bit_xor (after_bits 32 d) (after_bits 64 c)) (after_bits 96 b)) (after_bits 128 a)
step_in_words r a b c d xs long bytes ea eb ec ed =
    first_word 96 r a xs (omega arith) (omega arith) bytes ea
    ∙ ap (λ (x : ℕ). bit_xor x (after_bits 128 a)) (word_at 64 4 8 b xs refl (omega arith) bytes eb
    ∙ ap (λ (x : ℕ). bit_xor x (after_bits 96 b)) (word_at 32 8 12 c xs refl (omega arith) bytes ec
    ∙ ap (λ (x : ℕ). bit_xor x (after_bits 64 c)) (last_word 12 d xs (omega arith) bytes ed)))

-- the number in the bytes behind k others
little_above : (k n i : ℕ) (xs : List ℕ) → ((j : ℕ) → slice_index xs j < 256) → little_from i (k + n) xs / 2 ^ (8 * k) ≡ little_from (i + k) n xs
little_above zero n i xs bytes =
    let same : 0 + n ≡ n = omega arith in
    let one : little_from i n xs / 1 ≡ little_from i n xs = omega arith in
    let here : i ≡ i + 0 = omega arith in
    ap (λ (m : ℕ). little_from i m xs / 1) same ∙ one ∙ ap (λ (j : ℕ). little_from j n xs) here
little_above (suc k) n i xs bytes =
    let b = slice_index xs i in
    let m = little_from (suc i) (k + n) xs in
    let count : suc k + n ≡ suc (k + n) = omega arith in
    let bits : 8 * suc k ≡ 8 + 8 * k = omega arith in
    let fits : b < 256 = bytes i in
    let above : (b + 256 * m) / 2 ^ 8 ≡ m = omega arith in
    let place : suc i + k ≡ i + suc k = omega arith in
    (λ t. little_from i (count t) xs / 2 ^ bits t) ∙ sym (shr-shr (b + 256 * m) 8 (8 * k)) ∙ ap (λ (x : ℕ). x / 2 ^ (8 * k)) above
    ∙ little_above k n (suc i) xs bytes ∙ ap (λ (j : ℕ). little_from j n xs) place

-- k bits, moved up by s zeros to make 64
moved_up : (k s w v : ℕ) → s + k ≡ 64 → v ≡ w * 2 ^ s % 2 ^ 64 → after_bits k (w % 2 ^ k) ≡ after_bits 64 v
moved_up k s w v e ev =
    let turned : 64 ≡ k + s = omega arith in
    let low : w * 2 ^ s % 2 ^ s ≡ 0 = ap (λ (x : ℕ). x % 2 ^ s) (sym (add-zero (w * 2 ^ s))) ∙ mod_low w s 0 (pow_pos s) in
    let moved : v ≡ w % 2 ^ k * 2 ^ s = ev ∙ ap (λ (n : ℕ). w * 2 ^ s % 2 ^ n) turned ∙ mod-pow-add (w * 2 ^ s) k s ∙ (λ i. (shl-shr w s i % 2 ^ k) * 2 ^ s + low i) ∙ add-zero (w % 2 ^ k * 2 ^ s) in
    sym (ap (after_bits 64) moved ∙ ap (λ (n : ℕ). after_bits n (w % 2 ^ k * 2 ^ s)) (sym e) ∙ after_more s k (w % 2 ^ k * 2 ^ s) ∙ ap (after_bits k) (after_zeros s (w % 2 ^ k)))

last_bits : (k s w v : ℕ) → s + k ≡ 64 → v ≡ w * 2 ^ s % 2 ^ 64
    → after_bits k w ≡ bit_xor (bit_xor (after_bits 32 (v / 2 ^ 32)) (after_bits 64 (v % 2 ^ 32))) (w / 2 ^ k)
unfolding after_bits
last_bits k s w v e ev =
    let all : k ≡ k + 0 = omega arith in
    ap (λ (n : ℕ). after_bits n w) all ∙ after_lowest k 0 w
    ∙ ap (λ (n : ℕ). bit_xor (after_bits n (w % 2 ^ k)) (w / 2 ^ k)) (sym all)
    ∙ ap (λ (x : ℕ). bit_xor x (w / 2 ^ k)) (moved_up k s w v e ev ∙ after_lowest 32 32 v ∙ xor_comm (after_bits 64 (v % 2 ^ 32)) (after_bits 32 (v / 2 ^ 32)))

-- what stands above the last bytes is the remainder's
above_last : (k s n w r : ℕ) → s + k ≡ 64 → n < 2 ^ 64 → w ≡ bit_xor (n / 2 ^ s) r → w / 2 ^ k ≡ r / 2 ^ k
above_last k s n w r e below ew =
    let turned : 64 ≡ k + s = omega arith in
    let P : ℕ → Type 0 = λ m. n < 2 ^ m in
    let none : n / 2 ^ s / 2 ^ k ≡ 0 = div-eq_of_lt (shr_below n k s (subst P turned below)) in
    ap (λ (x : ℕ). x / 2 ^ k) ew ∙ xor_shr (n / 2 ^ s) r k ∙ ap (λ (x : ℕ). bit_xor x (r / 2 ^ k)) none ∙ xor_zero_l (r / 2 ^ k)

-- the last c of eight bytes, behind as many zeros as there are other bytes
last_in_words : (r c s n w v : ℕ) (xs : List ℕ) → length xs ≡ 8 → ((k : ℕ) → slice_index xs k < 256) → c ≤ 8 → s ≡ 64 - 8 * c
    → n ≡ little_number 8 xs → n < 2 ^ 64 → w ≡ bit_xor (n / 2 ^ s) r → v ≡ w * 2 ^ s % 2 ^ 64
    → after_bytes r (drop (8 - c) xs) ≡ bit_xor (bit_xor (after_bits 32 (v / 2 ^ 32)) (after_bits 64 (v % 2 ^ 32))) (r / 2 ^ (8 * c))
last_in_words r c s n w v xs long bytes within es en below ew ev =
    let others = 8 - c in
    let whole : 8 ≡ others + c = omega arith in
    let bits : s ≡ 8 * others = omega arith in
    let above : n / 2 ^ s ≡ little_from others c xs = (λ i. (en ∙ ap (λ (k : ℕ). little_from 0 k xs) whole) i / 2 ^ bits i) ∙ little_above others c 0 xs bytes ∙ ap (λ (j : ℕ). little_from j c xs) (zero-add others) in
    let word : bit_xor r (little_from others c xs) ≡ w = ap (bit_xor r) (sym above) ∙ xor_comm r (n / 2 ^ s) ∙ sym ew in
    sym (after_number c others r xs (omega arith) bytes)
    ∙ ap (λ (ys : List ℕ). after_bytes (after_bits (8 * c) (bit_xor r (little_from others c xs))) ys) (drop_all (others + c) xs (omega arith))
    ∙ ap (after_bits (8 * c)) word
    ∙ last_bits (8 * c) s w v (omega arith) ev
    ∙ ap (bit_xor (bit_xor (after_bits 32 (v / 2 ^ 32)) (after_bits 64 (v % 2 ^ 32)))) (above_last (8 * c) s n w r (omega arith) below ew)

-- four bytes of two lists make a word
four_fit : (a b c d : ℕ) → a < 256 → b < 256 → c < 256 → d < 256 → (k : ℕ) → slice_index (a ∷ b ∷ c ∷ d ∷ []) k < 256
four_fit a b c d ha hb hc hd zero = ha
four_fit a b c d ha hb hc hd (suc zero) = hb
four_fit a b c d ha hb hc hd (suc (suc zero)) = hc
four_fit a b c d ha hb hc hd (suc (suc (suc zero))) = hd
four_fit a b c d ha hb hc hd (suc (suc (suc (suc k)))) = omega arith

four_in_word : (r w a b c d : ℕ) (xs : List ℕ) → a < 256 → b < 256 → c < 256 → d < 256 → w ≡ a + 256 * (b + 256 * (c + 256 * d))
    → after_bytes r (a ∷ b ∷ c ∷ d ∷ xs) ≡ after_bytes (after_bits 32 (bit_xor w r)) xs
four_in_word r w a b c d xs ha hb hc hd e =
    let word : little_number 4 (a ∷ b ∷ c ∷ d ∷ []) ≡ w = omega arith in
    after_append r (a ∷ b ∷ c ∷ d ∷ []) xs
    ∙ ap (λ (x : ℕ). after_bytes x xs) (sym (after_number 4 0 r (a ∷ b ∷ c ∷ d ∷ []) (lit≤ tt) (four_fit a b c d ha hb hc hd)) ∙ ap (after_bits 32) (ap (bit_xor r) word ∙ xor_comm r w))

pub seam_in_word : (r w : ℕ) (xs ys : List ℕ) → length xs ≡ 3 → 0 < length ys → ((k : ℕ) → slice_index xs k < 256) → ((k : ℕ) → slice_index ys k < 256)
    → w ≡ slice_index xs 0 + 256 * (slice_index xs 1 + 256 * (slice_index xs 2 + 256 * slice_index ys 0))
    → after_bytes r (xs ++ ys) ≡ after_bytes (after_bits 32 (bit_xor w r)) (drop 1 ys)
seam_in_word r w xs ys hx hy bx by e =
    let a = slice_index xs 0 in
    let b = slice_index xs 1 in
    let c = slice_index xs 2 in
    let front : xs ≡ a ∷ b ∷ c ∷ [] = drop-cons xs 0 0 (omega arith) ∙ ap (λ (zs : List ℕ). a ∷ zs) (drop-cons xs 1 0 (omega arith) ∙ ap (λ (zs : List ℕ). b ∷ zs) (drop-cons xs 2 0 (omega arith) ∙ ap (λ (zs : List ℕ). c ∷ zs) (drop_all 3 xs (omega arith)))) in
    (λ i. after_bytes r (front i ++ drop-cons ys 0 0 hy i)) ∙ four_in_word r w a b c (slice_index ys 0) (drop 1 ys) (bx 0) (bx 1) (bx 2) (by 0) e

-- one byte by the table
pub byte_in_table : (w : ℕ) → after_bits 8 w ≡ bit_xor (after_bits 8 (w % 256)) (w / 2 ^ 8)
unfolding after_bits
byte_in_table w = after_lowest 8 0 w

-- the step of the loop
pub after_front : (r n : ℕ) (xs : List ℕ) → after_bytes (after_bytes r (take n xs)) (drop n xs) ≡ after_bytes r xs
after_front r n xs = sym (after_append r (take n xs) (drop n xs)) ∙ ap (after_bytes r) (take-append-drop n xs)

-- the last bytes of a longer text
pub last_in_text : (r c s n w v : ℕ) (xs : List ℕ) → 8 ≤ length xs → ((k : ℕ) → slice_index xs k < 256) → c ≤ 8 → s ≡ 64 - 8 * c
    → n ≡ little_number 8 (drop (length xs - 8) xs) → n < 2 ^ 64 → w ≡ bit_xor (n / 2 ^ s) r → v ≡ w * 2 ^ s % 2 ^ 64
    → after_bytes r (drop (length xs - c) xs) ≡ bit_xor (bit_xor (after_bits 32 (v / 2 ^ 32)) (after_bits 64 (v % 2 ^ 32))) (r / 2 ^ (8 * c))
last_in_text r c s n w v xs long bytes within es en below ew ev =
    let before = length xs - 8 in
    let place : length xs - c ≡ before + (8 - c) = omega arith in
    ap (after_bytes r) (ap (λ (k : ℕ). drop k xs) place ∙ sym (drop-drop (8 - c) before xs))
    ∙ last_in_words r c s n w v (drop before xs) (omega (arith, length-drop before xs)) (λ k. rw (get_or-drop before xs k 0) (bytes (before + k))) within es en below ew ev
