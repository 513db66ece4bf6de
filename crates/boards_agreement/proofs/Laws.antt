-- The theorems.
--     library_runs     every step of every run through the library is that of the run of `agreement`, the state as bytes
--     library_agrees   what demand 3 says of runs through the library
--     library_names    whom correct controllers name in them
--     library_held     who held the block that is agreed on, and who is in the core
--     library_late     a slot of another run is silence to every step
pub use Rattle.boards_agreement.proofs.Library.{library_runs, library_agrees, library_names, library_held, library_late}
