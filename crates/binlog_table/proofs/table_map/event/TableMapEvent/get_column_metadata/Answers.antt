use Rattle.std.proofs.Common.{rules, ◌≡◌, List, ℕ, Bor, sym, ◌∙◌}
use Rattle.std.specs.Option.{option_map}
use Rattle.binlog_table.specs.Chunks.{chunk_at}
use Rattle.binlog_table.specs.Lemmas.Chunks.{HasChunk-from_function, chunk_at-from_HasChunk}
use Rattle.binlog_table.proofs.table_map.event.TableMapEvent.get_column_metadata.Goals as goal

pub returns-clause-has_chunk : goal.returns-clause-has_chunk
returns-clause-has_chunk c =
    let t = c.args.self.now in
    let told : option_map (λ (x : Bor (List ℕ)). x.now) c.column_chunk.result ≡ chunk_at t.types t.metadata c.args.index = search rules in
    λ d. (λ h. HasChunk-from_function t.types t.metadata c.args.index d (sym told ∙ h), λ h. told ∙ chunk_at-from_HasChunk t.types t.metadata c.args.index d h)
