mod Begun
