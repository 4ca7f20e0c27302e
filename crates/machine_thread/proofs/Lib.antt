mod OnLaws
mod Stacks
