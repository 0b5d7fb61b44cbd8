-- The numbers of the smaller enums, each as a table of MySQL's documentation.
use Rattle.std.specs.Prelude.{ℕ, List, [], ◌∷◌}
use Rattle.binlog_consts.specs.declared.consts.format.BinlogVersion.{BinlogVersion}
use Rattle.binlog_consts.specs.declared.consts.format.BinlogVersion.TheVariants as version
use Rattle.binlog_consts.specs.declared.consts.format.BinlogChecksumAlg.{BinlogChecksumAlg}
use Rattle.binlog_consts.specs.declared.consts.format.BinlogChecksumAlg.TheVariants as checksum
use Rattle.binlog_consts.specs.declared.consts.event_fields.LoadDuplicateHandling.{LoadDuplicateHandling}
use Rattle.binlog_consts.specs.declared.consts.event_fields.LoadDuplicateHandling.TheVariants as duplicate
use Rattle.binlog_consts.specs.declared.consts.event_fields.IncidentType.{IncidentType}
use Rattle.binlog_consts.specs.declared.consts.event_fields.IncidentType.TheVariants as incident
use Rattle.binlog_consts.specs.declared.consts.event_fields.IntvarEventType.{IntvarEventType}
use Rattle.binlog_consts.specs.declared.consts.event_fields.IntvarEventType.TheVariants as intvar
use Rattle.binlog_consts.specs.declared.consts.payload.TransactionPayloadFields.{TransactionPayloadFields}
use Rattle.binlog_consts.specs.declared.consts.payload.TransactionPayloadFields.TheVariants as payload
use Rattle.binlog_consts.specs.declared.consts.payload.TransactionPayloadCompressionType.{TransactionPayloadCompressionType}
use Rattle.binlog_consts.specs.declared.consts.payload.TransactionPayloadCompressionType.TheVariants as compression

-- the versions of the binary log's format
abbrev pub binlog_versions : List (ℕ × BinlogVersion)
binlog_versions =
    (1, version.Version1)
    ∷ (2, version.Version2)
    ∷ (3, version.Version3)
    ∷ (4, version.Version4)
    ∷ []

-- the checksums at the end of each event
abbrev pub checksum_algs : List (ℕ × BinlogChecksumAlg)
checksum_algs =
    (0, checksum.BINLOG_CHECKSUM_ALG_OFF)
    ∷ (1, checksum.BINLOG_CHECKSUM_ALG_CRC32)
    ∷ []

-- what LOAD DATA does with a row whose key is there already
abbrev pub load_duplicate_handlings : List (ℕ × LoadDuplicateHandling)
load_duplicate_handlings =
    (0, duplicate.LOAD_DUP_ERROR)
    ∷ (1, duplicate.LOAD_DUP_IGNORE)
    ∷ (2, duplicate.LOAD_DUP_REPLACE)
    ∷ []

-- what an incident event reports
abbrev pub incident_types : List (ℕ × IncidentType)
incident_types =
    (0, incident.INCIDENT_NONE)
    ∷ (1, incident.INCIDENT_LOST_EVENTS)
    ∷ []

-- what the number in an integer variable's event is for
abbrev pub intvar_event_types : List (ℕ × IntvarEventType)
intvar_event_types =
    (0, intvar.INVALID_INT_EVENT)
    ∷ (1, intvar.LAST_INSERT_ID_EVENT)
    ∷ (2, intvar.INSERT_ID_EVENT)
    ∷ []

-- the fields in the header of a transaction payload
abbrev pub payload_fields : List (ℕ × TransactionPayloadFields)
payload_fields =
    (0, payload.OTW_PAYLOAD_HEADER_END_MARK)
    ∷ (1, payload.OTW_PAYLOAD_SIZE_FIELD)
    ∷ (2, payload.OTW_PAYLOAD_COMPRESSION_TYPE_FIELD)
    ∷ (3, payload.OTW_PAYLOAD_UNCOMPRESSED_SIZE_FIELD)
    ∷ []

-- how a transaction payload is compressed
abbrev pub payload_compressions : List (ℕ × TransactionPayloadCompressionType)
payload_compressions =
    (0, compression.ZSTD)
    ∷ (255, compression.NONE)
    ∷ []
