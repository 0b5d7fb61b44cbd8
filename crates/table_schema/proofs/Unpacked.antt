-- Bits that were packed are read as these bits.
use Rattle.std.proofs.Common.{◌≡◌, ℕ, zero, suc, ◌+◌, ◌*◌, ◌/◌, ◌%◌, ◌≤◌, ◌==◌, Bool, true, false, if◌then◌else◌, List, [], ◌∷◌, length, Ok, refl, sym, ap, ◌∙◌, arith, append-nil}
use Rattle.binlog_base.specs.declared.bits.BitOrder.TheVariants.{MostSignificantFirst}
use Rattle.binlog_base.specs.Bits.{bit_at, bit_in, bits_from, bits_of, bitmap_len, bit_list}
use Rattle.binlog_base.specs.Lemmas.Bits.{exact_bit_list}
use Rattle.binlog_table.specs.Fields.{whole, bits_for}
use Rattle.table_schema.specs.Completed.{packed}

u : Bool → ℕ
u true = 1
u false = 0

u_le : (b : Bool) → u b ≤ 1
unfolding u
u_le true = omega arith
u_le false = omega arith

-- a byte with one bit more
abbrev put : ℕ → Bool → ℕ → ℕ
put x b p = if b then x + p else x

put_is : (x : ℕ) (b : Bool) (p : ℕ) → put x b p ≡ x + p * u b
unfolding u
put_is x true p = omega arith
put_is x false p = omega arith

is_one : (x : ℕ) (b : Bool) → x ≡ u b → (x == 1) ≡ b
unfolding u
is_one x true h = rw h refl
is_one x false h = rw h refl

-- the byte of eight bits
abbrev byte_of : Bool → Bool → Bool → Bool → Bool → Bool → Bool → Bool → ℕ
byte_of a b c d e f g h = put (put (put (put (put (put (put (put 0 a 128) b 64) c 32) d 16) e 8) f 4) g 2) h 1

record Holds (a b c d e f g h : Bool) (x : ℕ) : Type 0 where
  b0 : bit_in MostSignificantFirst x 0 ≡ a
  b1 : bit_in MostSignificantFirst x 1 ≡ b
  b2 : bit_in MostSignificantFirst x 2 ≡ c
  b3 : bit_in MostSignificantFirst x 3 ≡ d
  b4 : bit_in MostSignificantFirst x 4 ≡ e
  b5 : bit_in MostSignificantFirst x 5 ≡ f
  b6 : bit_in MostSignificantFirst x 6 ≡ g
  b7 : bit_in MostSignificantFirst x 7 ≡ h

byte_is : (a b c d e f g h : Bool) → byte_of a b c d e f g h ≡ 128 * u a + 64 * u b + 32 * u c + 16 * u d + 8 * u e + 4 * u f + 2 * u g + 1 * u h
byte_is a b c d e f g h = omega (arith, put_is (0) a 128, put_is (put 0 a 128) b 64, put_is (put (put 0 a 128) b 64) c 32, put_is (put (put (put 0 a 128) b 64) c 32) d 16, put_is (put (put (put (put 0 a 128) b 64) c 32) d 16) e 8, put_is (put (put (put (put (put 0 a 128) b 64) c 32) d 16) e 8) f 4, put_is (put (put (put (put (put (put 0 a 128) b 64) c 32) d 16) e 8) f 4) g 2, put_is (put (put (put (put (put (put (put 0 a 128) b 64) c 32) d 16) e 8) f 4) g 2) h 1)

at_0 : (a b c d e f g h : Bool) → byte_of a b c d e f g h / 128 % 2 ≡ u a
at_0 a b c d e f g h = omega (arith, byte_is a b c d e f g h, u_le a, u_le b, u_le c, u_le d, u_le e, u_le f, u_le g, u_le h)

at_1 : (a b c d e f g h : Bool) → byte_of a b c d e f g h / 64 % 2 ≡ u b
at_1 a b c d e f g h = omega (arith, byte_is a b c d e f g h, u_le a, u_le b, u_le c, u_le d, u_le e, u_le f, u_le g, u_le h)

at_2 : (a b c d e f g h : Bool) → byte_of a b c d e f g h / 32 % 2 ≡ u c
at_2 a b c d e f g h = omega (arith, byte_is a b c d e f g h, u_le a, u_le b, u_le c, u_le d, u_le e, u_le f, u_le g, u_le h)

at_3 : (a b c d e f g h : Bool) → byte_of a b c d e f g h / 16 % 2 ≡ u d
at_3 a b c d e f g h = omega (arith, byte_is a b c d e f g h, u_le a, u_le b, u_le c, u_le d, u_le e, u_le f, u_le g, u_le h)

at_4 : (a b c d e f g h : Bool) → byte_of a b c d e f g h / 8 % 2 ≡ u e
at_4 a b c d e f g h = omega (arith, byte_is a b c d e f g h, u_le a, u_le b, u_le c, u_le d, u_le e, u_le f, u_le g, u_le h)

at_5 : (a b c d e f g h : Bool) → byte_of a b c d e f g h / 4 % 2 ≡ u f
at_5 a b c d e f g h = omega (arith, byte_is a b c d e f g h, u_le a, u_le b, u_le c, u_le d, u_le e, u_le f, u_le g, u_le h)

at_6 : (a b c d e f g h : Bool) → byte_of a b c d e f g h / 2 % 2 ≡ u g
at_6 a b c d e f g h = omega (arith, byte_is a b c d e f g h, u_le a, u_le b, u_le c, u_le d, u_le e, u_le f, u_le g, u_le h)

at_7 : (a b c d e f g h : Bool) → byte_of a b c d e f g h / 1 % 2 ≡ u h
at_7 a b c d e f g h = omega (arith, byte_is a b c d e f g h, u_le a, u_le b, u_le c, u_le d, u_le e, u_le f, u_le g, u_le h)

holds : (a b c d e f g h : Bool) → Holds a b c d e f g h (byte_of a b c d e f g h)
holds a b c d e f g h = record {
  b0 = is_one (byte_of a b c d e f g h / 128 % 2) a (at_0 a b c d e f g h);
  b1 = is_one (byte_of a b c d e f g h / 64 % 2) b (at_1 a b c d e f g h);
  b2 = is_one (byte_of a b c d e f g h / 32 % 2) c (at_2 a b c d e f g h);
  b3 = is_one (byte_of a b c d e f g h / 16 % 2) d (at_3 a b c d e f g h);
  b4 = is_one (byte_of a b c d e f g h / 8 % 2) e (at_4 a b c d e f g h);
  b5 = is_one (byte_of a b c d e f g h / 4 % 2) f (at_5 a b c d e f g h);
  b6 = is_one (byte_of a b c d e f g h / 2 % 2) g (at_6 a b c d e f g h);
  b7 = is_one (byte_of a b c d e f g h / 1 % 2) h (at_7 a b c d e f g h);
}

-- the bits behind the first byte
bit_behind : (x : ℕ) (more : List ℕ) (i k : ℕ) → k ≡ i + 8 → bit_at MostSignificantFirst (x ∷ more) k ≡ bit_at MostSignificantFirst more i
unfolding bit_at
bit_behind x more i k h =
    let d : k / 8 ≡ suc (i / 8) = omega (arith, h) in
    let m : k % 8 ≡ i % 8 = omega (arith, h) in
    rw (d, m) refl

bits_behind : (x : ℕ) (more : List ℕ) (i k n : ℕ) → k ≡ i + 8 → bits_from MostSignificantFirst (x ∷ more) k n ≡ bits_from MostSignificantFirst more i n
bits_behind x more i k zero h = refl
bits_behind x more i k (suc n) h = ap (λ b. b ∷ bits_from MostSignificantFirst (x ∷ more) (suc k) n) (bit_behind x more i k h) ∙ ap (λ l. bit_at MostSignificantFirst more i ∷ l) (bits_behind x more (suc i) (suc k) n (omega (arith, h)))

bits_back : (bits : List Bool) → bits_of MostSignificantFirst (length bits) (packed bits) ≡ bits
unfolding bit_at
bits_back [] = refl
bits_back (a ∷ []) = let k = holds a false false false false false false false in cc (k.b0)
bits_back (a ∷ b ∷ []) = let k = holds a b false false false false false false in cc (k.b0, k.b1)
bits_back (a ∷ b ∷ c ∷ []) = let k = holds a b c false false false false false in cc (k.b0, k.b1, k.b2)
bits_back (a ∷ b ∷ c ∷ d ∷ []) = let k = holds a b c d false false false false in cc (k.b0, k.b1, k.b2, k.b3)
bits_back (a ∷ b ∷ c ∷ d ∷ e ∷ []) = let k = holds a b c d e false false false in cc (k.b0, k.b1, k.b2, k.b3, k.b4)
bits_back (a ∷ b ∷ c ∷ d ∷ e ∷ f ∷ []) = let k = holds a b c d e f false false in cc (k.b0, k.b1, k.b2, k.b3, k.b4, k.b5)
bits_back (a ∷ b ∷ c ∷ d ∷ e ∷ f ∷ g ∷ []) = let k = holds a b c d e f g false in cc (k.b0, k.b1, k.b2, k.b3, k.b4, k.b5, k.b6)
bits_back (a ∷ b ∷ c ∷ d ∷ e ∷ f ∷ g ∷ h ∷ more) = let k = holds a b c d e f g h in let r = bits_behind (byte_of a b c d e f g h) (packed more) 0 8 (length more) (omega arith) in let s = bits_back more in cc (r, s, k.b0, k.b1, k.b2, k.b3, k.b4, k.b5, k.b6, k.b7)

pub length_back : (bits : List Bool) → length (packed bits) ≡ bitmap_len (length bits)
length_back [] = refl
length_back (a ∷ []) = refl
length_back (a ∷ b ∷ []) = refl
length_back (a ∷ b ∷ c ∷ []) = refl
length_back (a ∷ b ∷ c ∷ d ∷ []) = refl
length_back (a ∷ b ∷ c ∷ d ∷ e ∷ []) = refl
length_back (a ∷ b ∷ c ∷ d ∷ e ∷ f ∷ []) = refl
length_back (a ∷ b ∷ c ∷ d ∷ e ∷ f ∷ g ∷ []) = refl
length_back (a ∷ b ∷ c ∷ d ∷ e ∷ f ∷ g ∷ h ∷ more) = omega (arith, length_back more)

spelled : (bits : List Bool) → (bit_list MostSignificantFirst (length bits)).spells (packed bits) bits
unfolding bit_list
spelled bits = (packed bits, packed bits, [], sym (append-nil (packed bits)), (refl, length_back bits), (refl, sym (bits_back bits)))

pub bits_read : (bits : List Bool) → bits_for (length bits) (packed bits) ≡ Ok bits
bits_read bits =
    ap whole (ap (bit_list MostSignificantFirst (length bits)).parse (sym (append-nil (packed bits))) ∙ (exact_bit_list MostSignificantFirst (length bits)).complete (packed bits) [] bits (spelled bits))
