pub mod Hubs
pub mod Below
pub mod Calling
pub mod Causes
pub mod Causing
pub mod Crashes
pub mod Data
pub mod Ending
pub mod Following
pub mod Gathering
pub mod Advancing
pub mod Asked
mod Bare
mod OverLink
mod LinkEnds
mod LinkChanges
mod LinkBegins
mod LinkFronts
mod LinkFinishes
mod LinkDelivers
pub mod Changing
pub mod Framed
pub mod Framing
pub mod Giving
pub mod Lasting
pub mod Lawful
pub mod Numbering
pub mod Lined
pub mod Loading
pub mod One
pub mod Opening
pub mod Placing
pub mod Putting
pub mod Served
pub mod Standings
pub mod Stepping
pub mod Telling
pub mod Taking
pub mod FreeVotes
pub mod Handing
pub mod Closing
pub mod Drawing
pub mod Keeping
pub mod Others
pub mod Reading
pub mod Sounding
pub mod Leaving
pub mod Joinings
pub mod Opened
mod LinkAskHub
mod LinkAsked
mod LinkAsks
mod LinkHub
mod LinkLaws
mod LinkLines
mod LinkNumbers
mod LinkPuts
mod LinkReadHub
mod LinkReading
mod LinkReads
mod LinkVotes
mod Called
mod OverCalls
mod OverReads
