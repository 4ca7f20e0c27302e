mod Chains
mod TextLaws
mod Wholes
