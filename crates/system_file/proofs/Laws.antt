-- What a crate above may know of system files besides the contracts and the definitions.
--     read_right                        what holds of each file that is read
--     length_table, index_lt            the table has a place for each round, sender and receiver; place_read: what stands there
--     table_place, table_room           it says where a message starts, which is within the file; place-room
--     text_none, text_some              no text at the place 0
--     said_is, said_cases, said_bytes   a message is absent or has its round's length, and is bytes
--     faulty-member                     the set of the faulty controllers
--     file_right, file-wrong            what the answer tells
pub use Rattle.system_file.proofs.Files.{read_right, index_lt, place_read, place-room, table_place, table_room, text_none, text_some, said_is}
pub use Rattle.system_file.proofs.Files.{said_cases, said_bytes, faulty-member, file_right, file-wrong}
pub use Rattle.system_file.proofs.Rows.{length_table}
