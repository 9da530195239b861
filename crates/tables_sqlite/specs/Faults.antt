-- What an error of a database comes to where a store is opened over it, and where a table has another shape.
use Rattle.std.specs.Prelude.{ℕ, Some, ◌≡◌, ◌≢◌, slice_get}
use Rattle.sqlite.specs.Schema.{Schema}
use Rattle.sqlite.specs.Table.{Table}
use Rattle.sqlite.specs.declared.error.Error.{Error}
use Rattle.sqlite.specs.declared.error.Error.TheVariants as error
use Rattle.sqlite.specs.declared.error.ErrorCode.TheVariants as code
use Rattle.sqlite_schema.specs.Names.{table_named}
use Rattle.table_laws.specs.Schema.{cell_row, cachetags}
use Rattle.tables_sqlite.specs.declared.fault.NoKeeper.{NoKeeper}
use Rattle.tables_sqlite.specs.declared.fault.NoKeeper.TheVariants as no_keeper
use Rattle.tables_sqlite.specs.declared.fault.StoreTable.{StoreTable}
use Rattle.tables_sqlite.specs.declared.fault.StoreTable.TheVariants as store_table

abbrev pub no_keeper_of : Error → NoKeeper
no_keeper_of (error.SqliteFailure code.OutOfMemory) = no_keeper.OutOfMemory
no_keeper_of _ = no_keeper.Refused

-- the error tells of another cause than memory
abbrev pub IsRefusal : Error → Type 0
IsRefusal e = no_keeper_of e ≡ no_keeper.Refused

-- a table of this name is there, and its columns are others
pub record HasOther (wanted : Table) (schema : Schema) : Type 0 where
  pub at : ℕ
  pub named : table_named schema wanted.name ≡ Some at
  pub found : Table
  pub there : slice_get schema.tables at ≡ Some found
  pub other : found.columns ≢ wanted.columns

abbrev pub IsMisshapen : StoreTable → Schema → Type 0
IsMisshapen store_table.Cells schema = HasOther cell_row schema
IsMisshapen store_table.Tags schema = HasOther cachetags schema

-- a shape is told only of a table that has another
abbrev pub IfShape : NoKeeper → Schema → Type 0
IfShape (no_keeper.Shape table) schema = IsMisshapen table schema
IfShape _ schema = Unit {0}
