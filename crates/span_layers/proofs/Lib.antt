mod MemberLoops
mod MembersAsked
mod MembersNotified
mod MembersNumbered
mod SameVec
mod VetoHint
