-- When two values are equal.
use Rattle.std.specs.Prelude.{Bool, true, false, ◌&&◌, ◌==◌}
use Rattle.std.specs.Bool.{beq}
use Rattle.std.specs.Ordering.{int_eq}
use Rattle.std.specs.Cmp.Lexicographic.{pointwise}
use Rattle.binlog_base.specs.Values.{PlainValue, Null, Bytes, Int, UInt, Float, Double, Date, Time}

-- they have the same variant, and the same fields
abbrev pub same_plain : PlainValue → PlainValue → Bool
same_plain Null Null = true
same_plain (Bytes x) (Bytes y) = pointwise ◌==◌ x y
same_plain (Int x) (Int y) = int_eq x y
same_plain (UInt x) (UInt y) = x == y
same_plain (Float x) (Float y) = x == y
same_plain (Double x) (Double y) = x == y
same_plain (Date y0 m0 d0 h0 i0 s0 u0) (Date y1 m1 d1 h1 i1 s1 u1) = y0 == y1 && m0 == m1 && d0 == d1 && h0 == h1 && i0 == i1 && s0 == s1 && u0 == u1
same_plain (Time n0 d0 h0 i0 s0 u0) (Time n1 d1 h1 i1 s1 u1) = beq n0 n1 && d0 == d1 && h0 == h1 && i0 == i1 && s0 == s1 && u0 == u1
same_plain _ _ = false
