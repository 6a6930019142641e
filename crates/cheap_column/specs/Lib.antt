pub mod CheapColumn
