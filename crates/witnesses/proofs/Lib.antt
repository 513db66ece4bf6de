-- Three systems that meet what demand 3 supposes, as computed: a two_faced controller under a correct sender and without a sender, and a faulty
-- sender.
pub mod Test
pub mod TwoFaced
pub mod FaultySender
