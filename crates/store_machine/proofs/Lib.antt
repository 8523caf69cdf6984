pub mod ExampleTables
