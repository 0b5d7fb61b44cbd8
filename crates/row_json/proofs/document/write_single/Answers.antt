use Rattle.std.proofs.Common.{ℕ, ℤ, rules, refl, ap}
use Rattle.std.proofs.lemmas.Int.{to_z-of_z}
use Rattle.std.specs.Fmt.{decimal, signed_decimal}
use Rattle.json.specs.Json as json
use Rattle.binlog_values.specs.JsonbViews.{view_of}
use Rattle.binlog_values.specs.JsonbValues as scalar
use Rattle.row_json.proofs.Walked.{wrote_string, wrote_plain, wrote_token, of_null, of_boolean, of_i16, of_u16, of_i32, of_u32, of_i64, of_u64, of_f64}
use Rattle.row_json.proofs.document.write_single.Goals as goal

pub returns-in_ok-null-in-Null-clause-written : goal.returns-in_ok-null-in-Null-clause-written
returns-in_ok-null-in-Null-clause-written c = wrote_token scalar.Null _ (view_of c.args.value.now) c.args.out.now c.null.new.self _ json.null (ap view_of c.in-Null.is) of_null refl c.in_ok-null-in-Null.ensures refl

pub returns-in_ok-boolean-in-Bool-clause-written : goal.returns-in_ok-boolean-in-Bool-clause-written
returns-in_ok-boolean-in-Bool-clause-written c = wrote_token (scalar.Boolean _) _ (view_of c.args.value.now) c.args.out.now c.boolean.new.self _ (json.boolean _) (ap view_of c.in-Bool.is) (of_boolean _) refl c.in_ok-boolean-in-Bool.ensures refl

pub returns-in_ok-i64-in-I16-clause-written : goal.returns-in_ok-i64-in-I16-clause-written
returns-in_ok-i64-in-I16-clause-written c = wrote_token (scalar.I16 _) _ (view_of c.args.value.now) c.args.out.now c.i64.new.self _ (json.number _) (ap view_of c.in-I16.is) (of_i16 _) refl c.in_ok-i64-in-I16.ensures (ap (λ (z : ℤ). json.number (signed_decimal z)) (search (rules, to_z-of_z)))

pub returns-in_ok-u64-in-U16-clause-written : goal.returns-in_ok-u64-in-U16-clause-written
returns-in_ok-u64-in-U16-clause-written c = wrote_token (scalar.U16 _) _ (view_of c.args.value.now) c.args.out.now c.u64.new.self _ (json.number _) (ap view_of c.in-U16.is) (of_u16 _) refl c.in_ok-u64-in-U16.ensures (ap (λ (n : ℕ). json.number (decimal n)) c.from-in-U16.ensures)

pub returns-in_ok-i64-in-I32-clause-written : goal.returns-in_ok-i64-in-I32-clause-written
returns-in_ok-i64-in-I32-clause-written c = wrote_token (scalar.I32 _) _ (view_of c.args.value.now) c.args.out.now c.i64-in-I32.new.self _ (json.number _) (ap view_of c.in-I32.is) (of_i32 _) refl c.in_ok-i64-in-I32.ensures (ap (λ (z : ℤ). json.number (signed_decimal z)) (search (rules, to_z-of_z)))

pub returns-in_ok-u64-in-U32-clause-written : goal.returns-in_ok-u64-in-U32-clause-written
returns-in_ok-u64-in-U32-clause-written c = wrote_token (scalar.U32 _) _ (view_of c.args.value.now) c.args.out.now c.u64-in-U32.new.self _ (json.number _) (ap view_of c.in-U32.is) (of_u32 _) refl c.in_ok-u64-in-U32.ensures (ap (λ (n : ℕ). json.number (decimal n)) c.from-in-U32.ensures)

pub returns-in_ok-i64-in-I64-clause-written : goal.returns-in_ok-i64-in-I64-clause-written
returns-in_ok-i64-in-I64-clause-written c = wrote_token (scalar.I64 _) _ (view_of c.args.value.now) c.args.out.now c.i64-in-I64.new.self _ (json.number _) (ap view_of c.in-I64.is) (of_i64 _) refl c.in_ok-i64-in-I64.ensures (ap (λ (z : ℤ). json.number (signed_decimal z)) (search (rules, to_z-of_z)))

pub returns-in_ok-u64-in-U64-clause-written : goal.returns-in_ok-u64-in-U64-clause-written
returns-in_ok-u64-in-U64-clause-written c = wrote_token (scalar.U64 _) _ (view_of c.args.value.now) c.args.out.now c.u64-in-U64.new.self _ (json.number _) (ap view_of c.in-U64.is) (of_u64 _) refl c.in_ok-u64-in-U64.ensures refl

pub returns-in_ok-write_double-in-F64-clause-written : goal.returns-in_ok-write_double-in-F64-clause-written
returns-in_ok-write_double-in-F64-clause-written c = wrote_plain (scalar.F64 _) _ (view_of c.args.value.now) _ _ (ap view_of c.in-F64.is) (of_f64 _) c.in_ok-write_double-in-F64.ensures.written

pub returns-in_ok-write_string-in-String-clause-written : goal.returns-in_ok-write_string-in-String-clause-written
returns-in_ok-write_string-in-String-clause-written c = wrote_string _ (view_of c.args.value.now) _ _ (ap view_of c.in-String.is) c.in_ok-write_string-in-String.ensures.written
