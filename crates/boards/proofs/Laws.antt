-- What a crate above may know of the exported functions besides the contracts and the definitions.
--   Of a state within its bounds, as bytes
--     start_bytes_lem   a start that is carried out writes the state that it returns
--     step_bytes_lem    a step through the library is the step, refused or carried out
--     late-bytes        a slot of another run is silence to every step
--     outcome-bytes     the outcome's number; named_bytes: the marks of those named
--     final_bytes_lem   the final block of a run that is at its end
--     final_same        two states with one outcome and one block length have one final block of the same block
pub use Rattle.boards.proofs.Bytes.{start_bytes_lem, step_bytes_lem, late-bytes, outcome-bytes, named_bytes, final_bytes_lem, final_same}
