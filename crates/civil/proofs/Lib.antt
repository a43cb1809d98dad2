pub mod FromBelow
