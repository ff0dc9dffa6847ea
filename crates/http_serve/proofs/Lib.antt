pub mod Chains
pub mod OnWay
pub mod Ends
pub mod Bodies
pub mod OneReply
pub mod Standing
pub mod KeptViews
