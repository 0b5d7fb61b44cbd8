-- What `next` gives where bytes are left, by what reading a pair from them gave.
use Rattle.std.proofs.Common.{rules, arith, ◌≡◌, ◌≢◌, ◌<◌, ℕ, true, false, List, [], length, Option, Some, Result, Ok, Err, refl, sym, ap, subst}
use Rattle.std.specs.Prelude.{◌==◌}
use Rattle.binlog_base.specs.declared.fault.Fault.{Fault}
use Rattle.binlog_base.specs.declared.fault.Fault.TheVariants.{Memory}
use Rattle.binlog_table.specs.TableMap.{TableMap}
use Rattle.mysql_binlog_rows.specs.RowsEvent.{RowsEvent}
use Rattle.mysql_binlog_rows.specs.Images.{Pair, pair}
use Rattle.mysql_binlog_rows.specs.Rows.{Rows, PairGives, NextGives}
use Rattle.mysql_binlog_rows.specs.Workings.Plans.{Plans, Reads}
use Rattle.mysql_binlog_rows.specs.declared.rows_event.rows.State.{State}
use Rattle.mysql_binlog_rows.specs.Workings.State.{plans_in, is_planned, steps_in, due_in, most_in, PlansKept}

-- the iterator by what it holds
abbrev pub state : State → List ℕ → Rows
state k left = record { plans = plans_in k; left = left; is_planned = is_planned k; steps = steps_in k; due_steps = due_in k; most_steps = most_in k }

pub some_bytes : (x : List ℕ) → (length x == 0) ≡ false → 0 < length x
some_bytes x h = search rules

not_empty : (x : List ℕ) → 0 < length x → x ≢ []
not_empty x lt e = omega (arith, lt, ap length e)

abbrev Gave : State → List ℕ → Result (Pair × List ℕ) Fault → Type 0
Gave k x result = (t : TableMap) (e : RowsEvent) → Reads t e (plans_in k) → PairGives (pair t e) x result

pub pair_given : (old new : State) (x rest : List ℕ) (p : Pair) → 0 < length x → PlansKept old new → is_planned new ≡ true → length rest < length x → Gave old x (Ok (p, rest)) → NextGives (state old x) (Some (Ok p)) (state new rest)
pair_given old new x rest p some kept made shrinks gave = record {
  plans = record {
    plans = kept.plans;
    once = kept.once;
    waits = λ e. absurd (not_empty x some e);
    made = λ _ _. made;
    due = kept.due;
    most = kept.most;
  };
  shrinks = shrinks;
  item = λ t e reads. (some, gave t e reads);
  stays = λ t e reads. subst (λ (p : Plans). Reads t e p) (sym kept.plans) reads;
}

abbrev failed : Fault → Option (Result Pair Fault)
failed e = Some (Err e)

pub fault_given : (old new : State) (x : List ℕ) (e : Fault) → 0 < length x → PlansKept old new → (e ≢ Memory → is_planned new ≡ true) → Gave old x (Err e) → NextGives (state old x) (Some (Err e)) (state new [])
fault_given old new x e some kept made gave = record {
  plans = record {
    plans = kept.plans;
    once = kept.once;
    waits = λ empty. absurd (not_empty x some empty);
    made = λ _ not. made (λ is. not (ap failed is));
    due = kept.due;
    most = kept.most;
  };
  shrinks = (some, refl);
  item = λ t v reads. (some, refl, gave t v reads);
  stays = λ t v reads. subst (λ (p : Plans). Reads t v p) (sym kept.plans) reads;
}
