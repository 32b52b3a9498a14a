pub mod Reading
pub mod TomlFields
