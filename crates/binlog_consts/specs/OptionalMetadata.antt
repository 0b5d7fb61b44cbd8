-- The numbers of the fields of a table map event's optional metadata.
use Rattle.std.specs.Prelude.{ℕ, List, [], ◌∷◌}
use Rattle.binlog_consts.specs.declared.consts.optional_metadata.OptionalMetadataFieldType.{OptionalMetadataFieldType}
use Rattle.binlog_consts.specs.declared.consts.optional_metadata.OptionalMetadataFieldType.TheVariants as field

-- the kinds of fields by their numbers; a whole field of any other number is skipped
abbrev pub optional_metadata_field_types : List (ℕ × OptionalMetadataFieldType)
optional_metadata_field_types =
    (1, field.SIGNEDNESS)
    ∷ (2, field.DEFAULT_CHARSET)
    ∷ (3, field.COLUMN_CHARSET)
    ∷ (4, field.COLUMN_NAME)
    ∷ (5, field.SET_STR_VALUE)
    ∷ (6, field.ENUM_STR_VALUE)
    ∷ (7, field.GEOMETRY_TYPE)
    ∷ (8, field.SIMPLE_PRIMARY_KEY)
    ∷ (9, field.PRIMARY_KEY_WITH_PREFIX)
    ∷ (10, field.ENUM_AND_SET_DEFAULT_CHARSET)
    ∷ (11, field.ENUM_AND_SET_COLUMN_CHARSET)
    ∷ (12, field.COLUMN_VISIBILITY)
    ∷ (13, field.VECTOR_DIMENSIONALITY)
    ∷ []
