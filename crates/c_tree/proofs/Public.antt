-- What crates above may use of this crate's proofs, passed on from one place. Declares nothing.
pub use Rattle.c_tree.proofs.FlatRows.{of_do as flat_rows_of_do, of_if as flat_rows_of_if, of_while as flat_rows_of_while}
pub use Rattle.c_tree.proofs.NamesInTables.{names_numbered}
pub use Rattle.c_tree.proofs.NullLaws.{among_cases, among_left, among_none, among_right, both_empty, fewer_in_statements, left_empty}
pub use Rattle.c_tree.proofs.NullLaws.{none_among, none_as_first, right_empty}
pub use Rattle.c_tree.proofs.PlainNames.{array_within, length-plain_names, name_there, names_are_plain, one_mutex, plain_at, plain_lock, plain_name}
pub use Rattle.c_tree.proofs.PlainNames.{plain_number, plain_past}
pub use Rattle.c_tree.proofs.ProgramRows.{of_do as program_rows_of_do, of_if as program_rows_of_if, of_while as program_rows_of_while}
pub use Rattle.c_tree.proofs.SameNames.{held_number_stays, index_element, number_found, plain_known, same_index, same_number, same_typed_is}
pub use Rattle.c_tree.proofs.TreeRows.{of_block, of_do as tree_rows_of_do, of_for, of_if as tree_rows_of_if, of_while as tree_rows_of_while}
