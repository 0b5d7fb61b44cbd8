-- What decoding the bytes of a table map event and of a rows event gives.
use Rattle.std.specs.Prelude.{◌≡◌, ◌≢◌, ℕ, List, Option, None, Result, Err, IfOk, IfErr, ◌⊎◌}
use Rattle.std.specs.List.{concat}
use Rattle.binlog_base.specs.declared.fault.Fault.{Fault}
use Rattle.binlog_base.specs.declared.fault.Fault.TheVariants.{Memory}
use Rattle.binlog_base.specs.declared.below.columns.server.Server.{Server}
use Rattle.binlog_base.specs.declared.below.columns.server.Server.TheVariants.{MySql}
use Rattle.binlog_table.specs.TableMap.{TableMap, table_map_of}
use Rattle.mysql_binlog_rows.specs.declared.rows_event.event.RowsEventCtx.{RowsEventCtx}
use Rattle.mysql_binlog_rows.specs.RowsEvent.{RowsEvent, rows_event}
use Rattle.mysql_binlog_rows.specs.Images.{Pair, pair}
use Rattle.mysql_binlog_rows.specs.Cover.{ArePairs, Covers}

-- the server, the bytes of both its events, and what is needed to read them
pub record Input : Type 0 where
  pub server : Server
  pub table : List ℕ
  pub table_post_header_len : ℕ
  pub rows : List ℕ
  pub ctx : RowsEventCtx

abbrev pub input_of : Server → List ℕ → ℕ → List ℕ → RowsEventCtx → Input
input_of server table table_post_header_len rows ctx = record {
  server = server;
  table = table;
  table_post_header_len = table_post_header_len;
  rows = rows;
  ctx = ctx;
}

-- those of MySQL
abbrev pub input : List ℕ → ℕ → List ℕ → RowsEventCtx → Input
input table table_post_header_len rows ctx = input_of MySql table table_post_header_len rows ctx

-- the bytes of the table map event spell this event of the server
abbrev pub IsTable : Input → TableMap → Type 0
IsTable i t = (table_map_of i.server i.table_post_header_len).spells i.table t

-- the bytes of the rows event spell this event
abbrev pub IsEvent : Input → RowsEvent → Type 0
IsEvent i e = (rows_event i.ctx).spells i.rows e

-- both events can be read, and the rows data is these pairs and then a rest with this fault
pub record Decodes (i : Input) (pairs : List Pair) (end : Option Fault) : Type 0 where
  pub table : TableMap
  pub event : RowsEvent
  pub is_table : IsTable i table
  pub is_event : IsEvent i event
  pub covers : Covers (pair table event) event.rows_data pairs end

-- both events can be read, and the rows data is exactly these byte strings, which are these pairs
pub record IsAllPairs (i : Input) (parts : List (List ℕ)) (pairs : List Pair) : Type 0 where
  pub table : TableMap
  pub event : RowsEvent
  pub is_table : IsTable i table
  pub is_event : IsEvent i event
  pub each : ArePairs (pair table event) parts pairs
  pub whole : event.rows_data ≡ concat parts

-- an event is refused with this fault; the table map event's fault if both are refused
abbrev pub IsRefused : Input → Fault → Type 0
IsRefused i e =
    (table_map_of i.server i.table_post_header_len).refuses i.table e
    ⊎ ((t : TableMap) × IsTable i t × (rows_event i.ctx).refuses i.rows e)

-- The result of decoding the input; `view` takes the pairs and the fault out of a successful
-- result.
-- covers: both events are read, and the rows data is the pairs and then a rest with the fault.
-- unique: the rows data can't be read as any other pairs and fault.
-- complete: if the rows data is exactly a list of pairs, that list is the result, without a fault.
-- err: an error is the fault of the refused event, or Memory.
-- refused: if an event is refused, the error is its fault, and not Memory.
pub record DecodesAs {D : Type 0} (view : D → List Pair × Option Fault) (i : Input) (result : Result D Fault) : Type 0 where
  pub covers : IfOk result (λ d. Decodes i (view d).0 (view d).1)
  pub unique : IfOk result (λ d. (pairs : List Pair) (end : Option Fault) → Decodes i pairs end → (pairs ≡ (view d).0) × (end ≡ (view d).1))
  pub complete : IfOk result (λ d. (parts : List (List ℕ)) (pairs : List Pair) → IsAllPairs i parts pairs → (pairs ≡ (view d).0) × ((view d).1 ≡ None))
  pub err : IfErr result (λ e. e ≢ Memory → IsRefused i e)
  pub refused : (e : Fault) → IsRefused i e → result ≡ Err e
