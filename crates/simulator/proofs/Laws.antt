-- What a crate above may know of the output besides the contracts and the definitions.
--     simulated_right, simulated-wrong   the output by what was read
--     output_is                          the names line, and the lines of the correct controllers
--     results-alike                      the lines depend on who is faulty and on outcome and block of the correct controllers only
--     scenario_proper                    a file that has its form says a proper scenario
pub use Rattle.simulator.proofs.Outputs.{simulated_right, simulated-wrong, output_is, results-alike, scenario_proper}
