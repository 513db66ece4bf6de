-- The theorems.
--     run_supposed   the run of a scenario, as a system of `agreement`, meets what is supposed there
--     run_ends       what a correct controller ends with there is what it has at the end of the run
--     one_result     the correct controllers end with one outcome and one block
--     one_output     and all lines of the output carry them
pub use Rattle.simulation_agreement.proofs.Run.{run_supposed, run_ends}
pub use Rattle.simulation_agreement.proofs.Result.{one_result}
pub use Rattle.simulation_agreement.proofs.Output.{one_output}
